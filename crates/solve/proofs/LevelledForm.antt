-- 4aD·G = D·A² + B² + 4aΔ·z², with A the derivative by x and B = Dy + kz: both sides are one polynomial in the nine numbers.
-- Assumes nothing.
use mathlib.Core.Path.{◌≡◌}
use mathlib.Core.List.{[], ◌∷◌}
use lib.IntN.{ℤ, pos, ◌+ℤ◌, ◌*ℤ◌}
use Rattle.whole.proofs.Ring.{by_ring, reify}
use Rattle.point.specs.declared.Point.{Point}
use Rattle.conic.specs.Form.{G, Gx, D, Δ, k}
use Rattle.conic.specs.declared.conic.Conic.{Conic}

-- B = Dy + kz
unfoldable pub B : Conic → Point → ℤ
B h p = D h *ℤ p.y +ℤ k h *ℤ p.z

pub levelled_form : (h : Conic) (p : Point) →
    pos 4 *ℤ h.a *ℤ D h *ℤ G h p
    ≡ D h *ℤ (Gx h p *ℤ Gx h p) +ℤ B h p *ℤ B h p +ℤ pos 4 *ℤ (h.a *ℤ Δ h) *ℤ (p.z *ℤ p.z)
unfolding G Gx D Δ k B
levelled_form h p =
    by_ring (h.a ∷ h.b ∷ h.c ∷ h.d ∷ h.e ∷ h.f ∷ p.x ∷ p.y ∷ p.z ∷ []) (search reify depth 64 fits 9999) tt
