-- The direction from P to another point and the tangent at P: the chord of P and R = G(T)P − L(P, T)T is a multiple of T, the point
-- drawn along the chord of P and Q is a multiple of Q, and along the tangent a multiple of P. Assumes nothing.
use mathlib.Core.Path.{◌≡◌, sym, ap, ◌∙◌}
use mathlib.Core.Logic.{◌≢◌}
use mathlib.Core.List.{[], ◌∷◌}
use lib.IntN.{ℤ, pos, neg_ℤ, ◌+ℤ◌, ◌-ℤ◌, ◌*ℤ◌, neg_ℤ-neg_ℤ}
use Rattle.whole.proofs.Laws.{equal_of_difference}
use Rattle.whole.proofs.Ring.{by_ring, reify}
use Rattle.whole.proofs.Combination.{combine, ◌⊞◌, ◌⊠◌}
use Rattle.whole.proofs.Products.{*ℤ_cancel}
use Rattle.point.specs.Normal.{at_infinity}
use Rattle.point.specs.declared.Point.{Point}
use Rattle.point.specs.declared.Direction.{Direction}
use Rattle.point.proofs.Vector.{scaled, line, same_point, Proportional}
use Rattle.conic.specs.Form.{G, Gx, Gy, Gz, L, Δ, drawn}
use Rattle.conic.specs.declared.conic.Conic.{Conic}
use Rattle.conic.proofs.Form.{G-line, L-self, L-symmetric, L-line}
use Rattle.conic.proofs.Gram.{at_infinity_if_flat}
use Rattle.direction.specs.Direction.{tangent, chord}
use Rattle.direction.specs.Demand3.{Proper}
use Rattle.direction.proofs.Directions.{multiple, same_direction}

-- ---- the tangent

pub L-at-infinity : (h : Conic) (p : Point) (t : Direction) → L h p (at_infinity t) ≡ t.u *ℤ Gx h p +ℤ t.v *ℤ Gy h p
unfolding L at_infinity
L-at-infinity h p t = by_ring (t.u ∷ t.v ∷ Gx h p ∷ Gy h p ∷ Gz h p ∷ []) (search reify depth 64 fits 9999) tt

around : (m n : ℤ) → n *ℤ m +ℤ neg_ℤ m *ℤ n ≡ pos 0
around m n = by_ring (m ∷ n ∷ []) (search reify depth 64 fits 9999) tt

pub tangent_unseen : (h : Conic) (p : Point) → L h p (at_infinity (tangent h p)) ≡ pos 0
unfolding tangent
tangent_unseen h p = L-at-infinity h p (tangent h p) ∙ around (Gx h p) (Gy h p)

pub tangent_proper : (h : Conic) (p : Point) → Δ h ≢ pos 0 → G h p ≡ pos 0 → p.z ≢ pos 0 → Proper (tangent h p)
unfolding tangent
tangent_proper h p δ on plane =
    record { not_both_zero = λ e. plane (at_infinity_if_flat h p δ on (sym (neg_ℤ-neg_ℤ (Gx h p)) ∙ ap neg_ℤ e.1) e.0) }

-- ---- chords

back_along : (g l m n u : ℤ) → (g *ℤ m -ℤ l *ℤ u) *ℤ n -ℤ m *ℤ (g *ℤ n -ℤ l *ℤ pos 0) ≡ neg_ℤ (l *ℤ n) *ℤ u
back_along g l m n u = by_ring (g ∷ l ∷ m ∷ n ∷ u ∷ []) (search reify depth 64 fits 9999) tt

-- the chord to R is −L(P, T)·z₀ times T
pub chord_of_drawn : (h : Conic) (p : Point) (t : Direction) →
    chord p (drawn h p (at_infinity t)) ≡ multiple (neg_ℤ (L h p (at_infinity t) *ℤ p.z)) t
unfolding chord drawn at_infinity
chord_of_drawn h p t =
    same_direction
    (back_along (G h (at_infinity t)) (L h p (at_infinity t)) p.x p.z t.u)
    (back_along (G h (at_infinity t)) (L h p (at_infinity t)) p.y p.z t.v)

factor_out : (k m n o w : ℤ) → k *ℤ m *ℤ n -ℤ o *ℤ (k *ℤ w) ≡ k *ℤ (m *ℤ n -ℤ o *ℤ w)
factor_out k m n o w = by_ring (k ∷ m ∷ n ∷ o ∷ w ∷ []) (search reify depth 64 fits 9999) tt

pub chord_scaled : (p : Point) (k : ℤ) (q : Point) → chord p (scaled k q) ≡ multiple k (chord p q)
unfolding chord
chord_scaled p k q =
    same_direction (factor_out k q.x p.z p.x q.z) (factor_out k q.y p.z p.y q.z)

-- no chord: proportional points
pub proportional_of_chord : (p q : Point) → p.z ≢ pos 0 →
    q.x *ℤ p.z -ℤ p.x *ℤ q.z ≡ pos 0 → q.y *ℤ p.z -ℤ p.y *ℤ q.z ≡ pos 0 → Proportional q p
proportional_of_chord p q plane e f =
    record {
      x_y =
          *ℤ_cancel p.z plane
          (combine (p.y ⊠ e ⊞ neg_ℤ p.x ⊠ f)
          (by_ring (p.x ∷ p.y ∷ p.z ∷ q.x ∷ q.y ∷ q.z ∷ []) (search reify depth 64 fits 9999) tt));
      x_z = equal_of_difference (q.x *ℤ p.z) (p.x *ℤ q.z) e;
      y_z = equal_of_difference (q.y *ℤ p.z) (p.y *ℤ q.z) f;
    }

swapped : (m n o w : ℤ) → m *ℤ n -ℤ o *ℤ w ≡ n *ℤ m +ℤ neg_ℤ w *ℤ o
swapped m n o w = by_ring (m ∷ n ∷ o ∷ w ∷ []) (search reify depth 64 fits 9999) tt

nothing_left : (m n : ℤ) → pos 0 ≡ m *ℤ n +ℤ neg_ℤ n *ℤ m
nothing_left m n = by_ring (m ∷ n ∷ []) (search reify depth 64 fits 9999) tt

-- T = z₀Q − Q_z·P
chord_line : (p q : Point) → at_infinity (chord p q) ≡ line p.z q (neg_ℤ q.z) p
unfolding at_infinity chord
chord_line p q =
    same_point (swapped q.x p.z p.x q.z) (swapped q.y p.z p.y q.z) (nothing_left p.z q.z)

-- G(T) = −z₀·Q_z·L(P, Q)
G-chord : (h : Conic) (p q : Point) → G h p ≡ pos 0 → G h q ≡ pos 0 →
    G h (at_infinity (chord p q)) ≡ neg_ℤ (p.z *ℤ q.z *ℤ L h p q)
G-chord h p q on target =
    ap (G h) (chord_line p q) ∙ G-line h q p p.z (neg_ℤ q.z)
    ∙ combine
    (p.z *ℤ p.z ⊠ target ⊞ neg_ℤ p.z *ℤ q.z ⊠ L-symmetric h q p ⊞ q.z *ℤ q.z ⊠ on)
    (by_ring (p.z ∷ q.z ∷ G h p ∷ G h q ∷ L h p q ∷ L h q p ∷ []) (search reify depth 64 fits 9999) tt)

-- L(P, T) = z₀·L(P, Q)
L-chord : (h : Conic) (p q : Point) → G h p ≡ pos 0 → L h p (at_infinity (chord p q)) ≡ p.z *ℤ L h p q
L-chord h p q on =
    ap (L h p) (chord_line p q) ∙ L-line h p q p p.z (neg_ℤ q.z)
    ∙ combine
    (neg_ℤ q.z ⊠ L-self h p ⊞ neg_ℤ q.z *ℤ pos 2 ⊠ on)
    (by_ring (p.z ∷ q.z ∷ G h p ∷ L h p p ∷ L h p q ∷ []) (search reify depth 64 fits 9999) tt)

to_target : (g l z w k m n : ℤ) → g ≡ neg_ℤ (z *ℤ w *ℤ k) → l ≡ z *ℤ k →
    g *ℤ m -ℤ l *ℤ (n *ℤ z -ℤ m *ℤ w) ≡ neg_ℤ (z *ℤ z *ℤ k) *ℤ n
to_target g l z w k m n e f =
    combine (m ⊠ e ⊞ (m *ℤ w -ℤ n *ℤ z) ⊠ f)
    (by_ring (g ∷ l ∷ z ∷ w ∷ k ∷ m ∷ n ∷ []) (search reify depth 64 fits 9999) tt)

to_target_z : (g l z w k : ℤ) → g ≡ neg_ℤ (z *ℤ w *ℤ k) → g *ℤ z -ℤ l *ℤ pos 0 ≡ neg_ℤ (z *ℤ z *ℤ k) *ℤ w
to_target_z g l z w k e =
    combine (z ⊠ e) (by_ring (g ∷ l ∷ z ∷ w ∷ k ∷ []) (search reify depth 64 fits 9999) tt)

-- R = −z₀²·L(P, Q)·Q
pub drawn_along_chord : (h : Conic) (p q : Point) → G h p ≡ pos 0 → G h q ≡ pos 0 →
    drawn h p (at_infinity (chord p q)) ≡ scaled (neg_ℤ (p.z *ℤ p.z *ℤ L h p q)) q
unfolding drawn at_infinity chord
drawn_along_chord h p q on target =
    same_point
    (to_target g l p.z q.z (L h p q) p.x q.x e f)
    (to_target g l p.z q.z (L h p q) p.y q.y e f)
    (to_target_z g l p.z q.z (L h p q) e)
  where
    g : ℤ
    g = G h (at_infinity (chord p q))

    l : ℤ
    l = L h p (at_infinity (chord p q))

    e : g ≡ neg_ℤ (p.z *ℤ q.z *ℤ L h p q)
    e = G-chord h p q on target

    f : l ≡ p.z *ℤ L h p q
    f = L-chord h p q on
