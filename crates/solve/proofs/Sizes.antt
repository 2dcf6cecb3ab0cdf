-- X', Y' and W' are small, since their squares are at most |aΔ|, |D·aΔ| and |D| where X, Y, W lie in the box; and so is the point that
-- is carried back, before it is divided. Assumes nothing.
use mathlib.Core.Path.{◌≡◌, ap, ◌∙◌}
use mathlib.Core.List.{[], ◌∷◌}
use Prim.Native.Nat.{ℕ, suc, ◌*◌, ◌≤◌}
use native.Mathlib.Nat.{le_trans, le_of_eq, lt_of_le_of_lt, mul_comm, mul-le-mul, mul-le-mul_left, mul-mul-mul_comm}
use lib.Dec.{T, ltb, ltb→lt}
use lib.IntN.{ℤ, pos, nat_abs, ◌*ℤ◌, *ℤ_comm}
use Rattle.whole.proofs.Combination.{combine, ◌⊞◌, ◌⊠◌}
use Rattle.whole.proofs.Ring.{by_ring, reify}
use Rattle.whole.proofs.Signed.{sizes, bounds}
use Rattle.whole.proofs.Size.{nat_abs-*}
use Rattle.number.proofs.Square.{at_most_by_squares}
use Rattle.legendre.specs.Equation.{BoxSolution}
use Rattle.point.specs.Paper.{point_limit}
use Rattle.point.specs.Sizes.{PointWithin}
use Rattle.point.specs.declared.Point.{Point}
use Rattle.conic.specs.Form.{D, Δ, k}
use Rattle.conic.specs.Sizes.{InLimit}
use Rattle.conic.specs.declared.conic.Conic.{Conic}
use Rattle.conic.proofs.Sizes.{limit_D, limit_k, limit_aΔ, D-size, k_size, aΔ_size}
use Rattle.solve.specs.Demand2.{LevelledBy}
use Rattle.solve.specs.Level.{primed, from_primed}
use Rattle.solve.specs.Sizes.{limit_X', limit_Y', limit_W', PrimedWithin}
use Rattle.solve.proofs.Levelling.{level, D-is, aΔ_is}

-- ---- X', Y' and W'

pub root_within : (m n i r : ℕ) → i * i ≤ m → m ≤ n → T (ltb n (suc r * suc r)) → i ≤ r
root_within m n i r low small t = at_most_by_squares low (lt_of_le_of_lt small (ltb→lt n (suc r * suc r) t))

-- n = m·u² and i² ≤ |m|: (ui)² ≤ |n|
square_within : (u n m : ℤ) (i : ℕ) → n ≡ m *ℤ (u *ℤ u) → i * i ≤ nat_abs m → nat_abs (u *ℤ pos i) * nat_abs (u *ℤ pos i) ≤ nat_abs n
square_within u n m i e h =
    rw (e, nat_abs-* u (pos i), nat_abs-* m (u *ℤ u), nat_abs-* u u, mul-mul-mul_comm (nat_abs u) i (nat_abs u) i, mul_comm (nat_abs m))
    (mul-le-mul_left (nat_abs u * nat_abs u) h)

-- D·aΔ = pq·(stg)²
product_of_both : (p g q s t D E : ℤ) → D ≡ p *ℤ g *ℤ (s *ℤ s) → E ≡ q *ℤ g *ℤ (t *ℤ t) →
    D *ℤ E ≡ p *ℤ q *ℤ (s *ℤ t *ℤ g *ℤ (s *ℤ t *ℤ g))
product_of_both p g q s t D E D-is E-is =
    combine (E ⊠ D-is ⊞ p *ℤ g *ℤ (s *ℤ s) ⊠ E-is)
    (by_ring (p ∷ g ∷ q ∷ s ∷ t ∷ D ∷ E ∷ []) (search reify depth 64 fits 9999) tt)

module _ {h : Conic} {d₁ e₁ : ℤ} {s t : ℕ} {p g q : ℤ} (v : LevelledBy h d₁ e₁ s t p g q) where
  pub primed_within : {x y w : ℕ} → InLimit h → BoxSolution p g q x y w → PrimedWithin (primed (level v) (record { x = x; y = y; w = w }))
  unfolding primed
  primed_within {x} {y} {w} l box =
      record {
        x_within =
            root_within (nat_abs aΔ) limit_aΔ (t * x) limit_X'
            (square_within (pos t) aΔ (g *ℤ q) x (aΔ_is v ∙ ap (λ (n : ℤ). n *ℤ pos (t * t)) (*ℤ_comm q g)) box.x_within) of_aΔ tt;
        y_within =
            root_within (nat_abs (D h *ℤ aΔ)) (limit_D * limit_aΔ) (nat_abs (pos s *ℤ pos t *ℤ g *ℤ pos y)) limit_Y'
            (square_within (pos s *ℤ pos t *ℤ g) (D h *ℤ aΔ) (p *ℤ q) y (product_of_both p g q (pos s) (pos t) (D h) aΔ (D-is v) (aΔ_is v)) box.y_within)
            (le_trans (le_of_eq (nat_abs-* (D h) aΔ)) (mul-le-mul of_D of_aΔ)) tt;
        z_within =
            root_within (nat_abs (D h)) limit_D (s * w) limit_W'
            (square_within (pos s) (D h) (p *ℤ g) w (D-is v) box.w_within) of_D tt;
      }
    where
      aΔ : ℤ
      aΔ = h.a *ℤ Δ h

      of_D : nat_abs (D h) ≤ limit_D
      of_D = D-size h l

      of_aΔ : nat_abs aΔ ≤ limit_aΔ
      of_aΔ = aΔ_size h l

-- ---- the point, before the division

pub from_primed_within : (h : Conic) (m : Point) → InLimit h → PrimedWithin m → PointWithin point_limit (from_primed h m)
unfolding from_primed
from_primed_within h m l small =
    let of_D : nat_abs (D h) ≤ limit_D = D-size h l in
    let of_k : nat_abs (k h) ≤ limit_k = k_size h l in
    record {
      x_within = bounds (search sizes depth 40 fits 9999) tt;
      y_within = bounds (search sizes depth 40 fits 9999) tt;
      z_within = bounds (search sizes depth 40 fits 9999) tt;
    }
