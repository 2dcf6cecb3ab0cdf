-- One step of the descent for pX² + gY² + qW² = 0, p and g positive: from a solution with X, Y without common factor and
-- W² > pg comes one with a smaller W > 0. Mordell's step, shortened: the new W' is read off 2·W·W' = B² + pg, where |B| ≤ W.
-- Assumes nothing.
use mathlib.Core.Path.{◌≡◌, refl, ap, subst, ◌∙◌}
use mathlib.Core.List.{[], ◌∷◌}
use Prim.Native.Nat.{ℕ, zero, suc, ◌+◌, ◌*◌, ◌≤◌, ◌<◌}
use native.Mathlib.Nat.{mul-le-mul, mul-pos, lt_of_mul-lt-mul_left}
use native.Mathlib.Omega.{arith}
use lib.IntN.{ℤ, pos, negsuc, neg_ℤ, nat_abs, ◌+ℤ◌, ◌-ℤ◌, ◌*ℤ◌}
use Rattle.whole.proofs.Ring.{by_ring, reify}
use Rattle.whole.proofs.Combination.{combine, ◌⊞◌, ◌⊠◌}
use Rattle.whole.proofs.Size.{square_is}
use Rattle.number.proofs.Bezout.{Combines}
use Rattle.legendre.specs.Equation.{form}
use Rattle.legendre.proofs.Nearest.{Choice, choose}

-- X and Y that solve the equation with W
pub record Point (p g q w : ℤ) : Type 0 where
  pub x : ℤ
  pub y : ℤ
  pub equation : form p g q x y w ≡ pos 0

-- with X and Y without common factor
pub record PrimitivePoint (p g q w : ℤ) : Type 0 where
  pub point : Point p g q w
  pub bezout : Combines point.x point.y (pos 1)

-- ---- the identities

module _ {p g q w : ℤ} (s : PrimitivePoint p g q w) where
  abbrev x : ℤ
  x = s.point.x

  abbrev y : ℤ
  y = s.point.y

  abbrev u : ℤ
  u = s.bezout.left

  abbrev v : ℤ
  v = s.bezout.right

  abbrev K : ℤ
  K = p *ℤ v *ℤ x -ℤ g *ℤ u *ℤ y

  abbrev M : ℤ
  M = neg_ℤ (q *ℤ (p *ℤ (v *ℤ v) +ℤ g *ℤ (u *ℤ u)))

  norm : M *ℤ (w *ℤ w) ≡ K *ℤ K +ℤ p *ℤ g
  norm =
      combine (neg_ℤ (p *ℤ (v *ℤ v) +ℤ g *ℤ (u *ℤ u)) ⊠ s.point.equation ⊞ p *ℤ g *ℤ (u *ℤ x +ℤ v *ℤ y +ℤ pos 1) ⊠ s.bezout.combination)
      (by_ring (p ∷ g ∷ q ∷ w ∷ x ∷ y ∷ u ∷ v ∷ []) (search reify depth 64 fits 9999) tt)

  module _ (c : Choice w K M) where
    abbrev W : ℤ
    W = w *ℤ c.f -ℤ c.Z *ℤ c.B

    next_size : pos 2 *ℤ (w *ℤ W) ≡ c.B *ℤ c.B +ℤ p *ℤ g
    next_size =
        combine (pos 1 ⊠ norm ⊞ neg_ℤ (w *ℤ w) ⊠ c.same_parity ⊞ (K +ℤ c.B +ℤ c.Z *ℤ w) ⊠ c.near)
        (by_ring (p ∷ g ∷ q ∷ w ∷ x ∷ y ∷ u ∷ v ∷ c.Z ∷ c.f ∷ c.B ∷ []) (search reify depth 64 fits 9999) tt)

    next_point : Point p g q W
    next_point =
        record {
          x = x *ℤ c.f +ℤ v *ℤ q *ℤ c.B;
          y = y *ℤ c.f -ℤ u *ℤ q *ℤ c.B;
          equation =
              combine
              (c.f *ℤ c.f ⊠ s.point.equation ⊞ pos 2 *ℤ c.f *ℤ q *ℤ c.B ⊠ c.near ⊞ neg_ℤ (q *ℤ (c.B *ℤ c.B)) ⊠ c.same_parity)
              (by_ring (p ∷ g ∷ q ∷ w ∷ x ∷ y ∷ u ∷ v ∷ c.Z ∷ c.f ∷ c.B ∷ []) (search reify depth 64 fits 9999) tt);
        }

-- ---- the size of the new W

-- z is one of 1, …, w − 1
record Less (w : ℕ) (z : ℤ) : Type 0 where
  size : ℕ
  is_size : z ≡ pos size
  positive : 0 < size
  below : size < w

negative_moved : (w n r : ℤ) → pos 2 *ℤ (w *ℤ neg_ℤ n) ≡ r → pos 2 *ℤ (w *ℤ n) +ℤ r ≡ pos 0
negative_moved w n r e = combine (negsuc 0 ⊠ e) (by_ring (w ∷ n ∷ r ∷ []) (search reify depth 64 fits 9999) tt)

less : (w b m : ℕ) (z : ℤ) → 0 < m → b ≤ w → m < w * w → pos 2 *ℤ (pos w *ℤ z) ≡ pos (b * b + m) → Less w z
less w b m (pos zero) m>0 b≤w m<w² e = absurd (nothing (ap nat_abs e))
  where
    nothing : 2 * (w * 0) ≡ b * b + m → ⊥
    nothing e = omega arith
less w b m (pos (suc n)) m>0 b≤w m<w² e =
    record {
      size = suc n;
      is_size = refl;
      positive = omega arith;
      below = lt_of_mul-lt-mul_left w (products (ap nat_abs e) (mul-le-mul b≤w b≤w));
    }
  where
    products : 2 * (w * suc n) ≡ b * b + m → b * b ≤ w * w → w * suc n < w * w
    products e h = omega arith
less w b m (negsuc n) m>0 b≤w m<w² e = absurd (nothing (ap nat_abs (negative_moved (pos w) (pos (suc n)) (pos (b * b + m)) e)))
  where
    nothing : 2 * (w * suc n) + (b * b + m) ≡ 0 → ⊥
    nothing e = omega arith

-- ---- the step

pub record Smaller (p g q : ℤ) (w : ℕ) : Type 0 where
  pub size : ℕ
  pub positive : 0 < size
  pub below : size < w
  pub point : Point p g q (pos size)

pub step : (a b : ℕ) (q : ℤ) (w : ℕ) → 0 < a → 0 < b → 0 < w → a * b < w * w → PrimitivePoint (pos a) (pos b) q (pos w)
    → Smaller (pos a) (pos b) q w
step a b q w a>0 b>0 w>0 large s =
    from_size (less w (nat_abs c.B) (a * b) (W s c) (mul-pos a>0 b>0) c.within large size_equation)
  where
    c : Choice (pos w) (K s) (M s)
    c = choose w (K s) (M s) w>0

    size_equation : pos 2 *ℤ (pos w *ℤ W s c) ≡ pos (nat_abs c.B * nat_abs c.B + a * b)
    size_equation = next_size s c ∙ ap (λ (n : ℤ). n +ℤ pos (a * b)) (square_is c.B)

    from_size : Less w (W s c) → Smaller (pos a) (pos b) q w
    from_size l =
        record {
          size = l.size;
          positive = l.positive;
          below = l.below;
          point = subst (Point (pos a) (pos b) q) l.is_size (next_point s c);
        }
