-- The second point of a line through P, R = G(T)P − L(P, T)T, grows with the square of T, along the tangent is a multiple of P, and
-- with T at infinity and P in the plane is not 0. Assumes nothing.
use mathlib.Core.Path.{◌≡◌, sym, ap, ◌∙◌}
use mathlib.Core.Logic.{◌≢◌}
use mathlib.Core.List.{[], ◌∷◌}
use lib.IntN.{ℤ, pos, negsuc, neg_ℤ, ◌-ℤ◌, ◌*ℤ◌, *ℤ_comm, *ℤ-zero}
use Rattle.whole.proofs.Ring.{by_ring, reify}
use Rattle.whole.proofs.Combination.{combine, ◌⊞◌, ◌⊠◌}
use Rattle.whole.proofs.Cancel.{other_factor_zero}
use Rattle.point.specs.Normal.{at_infinity}
use Rattle.point.specs.declared.Point.{Point}
use Rattle.point.specs.declared.Direction.{Direction}
use Rattle.point.proofs.Vector.{scaled, same_point, Zero, Proportional}
use Rattle.conic.specs.Form.{G, L, Δ, drawn}
use Rattle.conic.specs.declared.conic.Conic.{Conic}
use Rattle.conic.proofs.Form.{G-scaled, L-scaled}
use Rattle.conic.proofs.Gram.{unseen_proportional}
use Rattle.direction.specs.Demand3.{Proper}
use Rattle.direction.proofs.Directions.{zero_multiple}

square_out : (k g l m n : ℤ) → k *ℤ k *ℤ g *ℤ m -ℤ k *ℤ l *ℤ (k *ℤ n) ≡ k *ℤ k *ℤ (g *ℤ m -ℤ l *ℤ n)
square_out k g l m n = by_ring (k ∷ g ∷ l ∷ m ∷ n ∷ []) (search reify depth 64 fits 9999) tt

pub drawn_scaled : (h : Conic) (p : Point) (k : ℤ) (t : Point) → drawn h p (scaled k t) ≡ scaled (k *ℤ k) (drawn h p t)
unfolding drawn
drawn_scaled h p k t = same_point (each p.x t.x) (each p.y t.y) (each p.z t.z)
  where
    each : (m n : ℤ) →
        G h (scaled k t) *ℤ m -ℤ L h p (scaled k t) *ℤ (k *ℤ n) ≡ k *ℤ k *ℤ (G h t *ℤ m -ℤ L h p t *ℤ n)
    each m n =
        ap (λ g. g *ℤ m -ℤ L h p (scaled k t) *ℤ (k *ℤ n)) (G-scaled h k t)
        ∙ ap (λ l. k *ℤ k *ℤ G h t *ℤ m -ℤ l *ℤ (k *ℤ n)) (L-scaled h p k t)
        ∙ square_out k (G h t) (L h p t) m n

-- ---- a line of direction T through P

-- where P does not see T, R is a multiple of P
pub drawn_along_tangent : (h : Conic) (p t : Point) → L h p t ≡ pos 0 → drawn h p t ≡ scaled (G h t) p
unfolding drawn
drawn_along_tangent h p t e = same_point (each p.x t.x) (each p.y t.y) (each p.z t.z)
  where
    each : (m n : ℤ) → G h t *ℤ m -ℤ L h p t *ℤ n ≡ G h t *ℤ m
    each m n = combine (neg_ℤ n ⊠ e) (by_ring (G h t ∷ L h p t ∷ m ∷ n ∷ []) (search reify depth 64 fits 9999) tt)

drawn_z : (g l n : ℤ) → g *ℤ n -ℤ l *ℤ pos 0 ≡ n *ℤ g
drawn_z g l n = by_ring (g ∷ l ∷ n ∷ []) (search reify depth 64 fits 9999) tt

seen_part : (g l m n : ℤ) → g ≡ pos 0 → g *ℤ m -ℤ l *ℤ n ≡ pos 0 → l *ℤ n ≡ pos 0
seen_part g l m n e f =
    combine (m ⊠ e ⊞ negsuc 0 ⊠ f) (by_ring (g ∷ l ∷ m ∷ n ∷ []) (search reify depth 64 fits 9999) tt)

-- with P in the plane and T at infinity, on a non-degenerate conic
pub drawn_not_zero : (h : Conic) (p : Point) (t : Direction) → Δ h ≢ pos 0 →
    G h p ≡ pos 0 → p.z ≢ pos 0 → Proper t → ¬ Zero (drawn h p (at_infinity t))
unfolding drawn at_infinity
drawn_not_zero h p t δ on plane proper (a, b, c) =
    proper.not_both_zero (through p.x r.x_z, through p.y r.y_z)
  where
    G-vanishes : G h (at_infinity t) ≡ pos 0
    G-vanishes = other_factor_zero plane (sym (drawn_z (G h (at_infinity t)) (L h p (at_infinity t)) p.z) ∙ c)

    L-vanishes : L h p (at_infinity t) ≡ pos 0
    L-vanishes =
        zero_multiple proper
        (seen_part (G h (at_infinity t)) (L h p (at_infinity t)) p.x t.u G-vanishes a)
        (seen_part (G h (at_infinity t)) (L h p (at_infinity t)) p.y t.v G-vanishes b)

    r : Proportional p (at_infinity t)
    r = unseen_proportional h p (at_infinity t) δ on L-vanishes G-vanishes

    through : (m : ℤ) {n : ℤ} → m *ℤ pos 0 ≡ n *ℤ p.z → n ≡ pos 0
    through m {n} e = other_factor_zero plane (*ℤ_comm p.z n ∙ sym e ∙ *ℤ-zero m)
