-- A common factor h of Y and W divides X, where pX² + gY² + qW² = 0 and p is squarefree: h² divides gY² + qW², so it divides pX², and p
-- has no square to give. Assumes nothing.
use mathlib.Core.Path.{◌≡◌, subst₂}
use mathlib.Core.List.{[], ◌∷◌}
use lib.IntN.{ℤ, pos, neg_ℤ, ◌+ℤ◌, ◌*ℤ◌}
use Rattle.whole.proofs.Ring.{by_ring, reify}
use Rattle.whole.proofs.Combination.{combine}
use Rattle.number.specs.Divides.{◌∣ℤ◌}
use Rattle.number.specs.Squarefree.{Squarefree}
use Rattle.number.proofs.Squarefree.{root_divides_root_ℤ}
use Rattle.legendre.specs.Equation.{form}

square_divides : (p g q x y w h : ℤ) → form p g q x (y *ℤ h) (w *ℤ h) ≡ pos 0 → (h *ℤ h) ∣ℤ (p *ℤ (x *ℤ x))
square_divides p g q x y w h e = record {
  quotient = neg_ℤ (g *ℤ (y *ℤ y) +ℤ q *ℤ (w *ℤ w));
  multiple = combine e (by_ring (p ∷ g ∷ q ∷ x ∷ y ∷ w ∷ h ∷ []) (search reify depth 64 fits 9999) tt);
}

pub third_divided : (p g q x y w h : ℤ) → Squarefree p → form p g q x y w ≡ pos 0 → h ∣ℤ y → h ∣ℤ w → h ∣ℤ x
third_divided p g q x y w h free e h_y h_w =
    root_divides_root_ℤ h x free
    (square_divides p g q x h_y.quotient h_w.quotient h
    (subst₂ (λ (y w : ℤ). form p g q x y w ≡ pos 0) h_y.multiple h_w.multiple e))
