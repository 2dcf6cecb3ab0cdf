-- G on a line through two points, and L: linear in each point and symmetric, with L(P, P) = 2G(P). Each is one identity of
-- polynomials; so a point is on the conic exactly if its normal form is. Assumes nothing.
use mathlib.Core.Path.{◌≡◌, sym, ap, ◌∙◌}
use mathlib.Core.Logic.{◌≢◌, ◌↔◌}
use lib.IntN.{ℤ, pos, ◌*ℤ◌, *ℤ-zero, ◌+ℤ◌}
use mathlib.Core.List.{[], ◌∷◌}
use Rattle.whole.proofs.Cancel.{other_factor_zero, product_not_zero}
use Rattle.whole.proofs.Ring.{by_ring, reify}
use Rattle.point.specs.Normal.{normal}
use Rattle.point.specs.declared.Point.{Point}
use Rattle.point.proofs.Vector.{scaled, Zero, line}
use Rattle.point.proofs.Normal.{signed_factor, signed_factor_not_zero, factor_times_normal}
use Rattle.conic.specs.Form.{G, Gx, Gy, Gz, L}
use Rattle.conic.specs.declared.conic.Conic.{Conic}

pub G-line : (h : Conic) (p t : Point) (α β : ℤ) →
    G h (line α p β t) ≡ α *ℤ α *ℤ G h p +ℤ α *ℤ β *ℤ L h p t +ℤ β *ℤ β *ℤ G h t
unfolding G L Gx Gy Gz
G-line h p t α β =
    by_ring
    (h.a ∷ h.b ∷ h.c ∷ h.d ∷ h.e ∷ h.f ∷ p.x ∷ p.y ∷ p.z ∷ t.x ∷ t.y ∷ t.z ∷ α ∷ β ∷ [])
    (search reify depth 64 fits 9999) tt

pub G-scaled : (h : Conic) (k : ℤ) (p : Point) → G h (scaled k p) ≡ k *ℤ k *ℤ G h p
unfolding G
G-scaled h k p =
    by_ring (h.a ∷ h.b ∷ h.c ∷ h.d ∷ h.e ∷ h.f ∷ p.x ∷ p.y ∷ p.z ∷ k ∷ []) (search reify depth 64 fits 9999) tt

pub L-self : (h : Conic) (p : Point) → L h p p ≡ pos 2 *ℤ G h p
unfolding G L Gx Gy Gz
L-self h p = by_ring (h.a ∷ h.b ∷ h.c ∷ h.d ∷ h.e ∷ h.f ∷ p.x ∷ p.y ∷ p.z ∷ []) (search reify depth 64 fits 9999) tt

pub L-symmetric : (h : Conic) (p t : Point) → L h p t ≡ L h t p
unfolding L Gx Gy Gz
L-symmetric h p t =
    by_ring
    (h.a ∷ h.b ∷ h.c ∷ h.d ∷ h.e ∷ h.f ∷ p.x ∷ p.y ∷ p.z ∷ t.x ∷ t.y ∷ t.z ∷ [])
    (search reify depth 64 fits 9999) tt

linear : (α β u v w x y z f g e : ℤ) →
    (α *ℤ u +ℤ β *ℤ x) *ℤ f +ℤ (α *ℤ v +ℤ β *ℤ y) *ℤ g +ℤ (α *ℤ w +ℤ β *ℤ z) *ℤ e
    ≡ α *ℤ (u *ℤ f +ℤ v *ℤ g +ℤ w *ℤ e) +ℤ β *ℤ (x *ℤ f +ℤ y *ℤ g +ℤ z *ℤ e)
linear α β u v w x y z f g e =
    by_ring (α ∷ β ∷ u ∷ v ∷ w ∷ x ∷ y ∷ z ∷ f ∷ g ∷ e ∷ []) (search reify depth 64 fits 9999) tt

pub L-line : (h : Conic) (s p t : Point) (α β : ℤ) → L h s (line α p β t) ≡ α *ℤ L h s p +ℤ β *ℤ L h s t
unfolding L
L-line h s p t α β = linear α β p.x p.y p.z t.x t.y t.z (Gx h s) (Gy h s) (Gz h s)

scaling : (k u v w f g e : ℤ) →
    k *ℤ u *ℤ f +ℤ k *ℤ v *ℤ g +ℤ k *ℤ w *ℤ e ≡ k *ℤ (u *ℤ f +ℤ v *ℤ g +ℤ w *ℤ e)
scaling k u v w f g e = by_ring (k ∷ u ∷ v ∷ w ∷ f ∷ g ∷ e ∷ []) (search reify depth 64 fits 9999) tt

pub L-scaled : (h : Conic) (s : Point) (k : ℤ) (t : Point) → L h s (scaled k t) ≡ k *ℤ L h s t
unfolding L
L-scaled h s k t = scaling k t.x t.y t.z (Gx h s) (Gy h s) (Gz h s)

-- ---- on the conic

pub normal_on_iff : (h : Conic) {p : Point} → ¬ Zero p → (G h p ≡ pos 0) ↔ (G h (normal p) ≡ pos 0)
normal_on_iff h {p} f = (
  λ e. other_factor_zero (product_not_zero s≢0 s≢0) (sym grown ∙ e),
  λ e. grown ∙ ap (λ m. s *ℤ s *ℤ m) e ∙ *ℤ-zero (s *ℤ s),
)
  where
    s : ℤ
    s = signed_factor p

    s≢0 : s ≢ pos 0
    s≢0 = signed_factor_not_zero f

    grown : G h p ≡ s *ℤ s *ℤ G h (normal p)
    grown = ap (G h) (sym (factor_times_normal p)) ∙ G-scaled h s (normal p)
