-- `point::Point::over` meets its contract: a quotient is at most its dividend in size, and nothing is left over 0.
-- Assumes nothing.
use mathlib.Core.Path.{◌≡◌, refl, sym, ap, ◌∙◌}
use Prim.Native.Nat.{suc}
use native.Mathlib.Nat.{div-zero}
use native.Mathlib.Omega.{arith}
use lib.IntN.{ℤ, pos, negsuc, neg_ℤ}
use lib.Signed.{quot_z}
use mir.Syntax.{w64}
use Rattle.whole.proofs.Signed.{sizes, ranges, fits, reads}
use Rattle.whole.proofs.SignedTests.{same_number}
use Rattle.point.specs.Normal.{over}
use Rattle.point.specs.declared.Point.{Point}
use Rattle.point.proofs.Vector.{same_point}
use Rattle.point.proofs.Point.over.Goals as goal

quotient_by_zero : (m : ℤ) → pos 0 ≡ quot_z m (pos 0)
quotient_by_zero (pos m) = ap pos (sym (div-zero m))
quotient_by_zero (negsuc m) = ap (λ k. neg_ℤ (pos k)) (sym (div-zero (suc m)))

over_zero : (p : Point) (n : ℤ) → n ≡ pos 0 → record { x = pos 0; y = pos 0; z = pos 0 } ≡ over n p
unfolding over
over_zero p n e = same_point (quotient_by_zero p.x) (quotient_by_zero p.y) (quotient_by_zero p.z) ∙ ap (λ k. over k p) (sym e)

divided : (p : Point) (n : ℤ) → record { x = quot_z p.x n; y = quot_z p.y n; z = quot_z p.z n } ≡ over n p
unfolding over
divided p n = refl

pub returns-then-n-eq0 : goal.returns-then-n-eq0
returns-then-n-eq0 c = over_zero _ _ (same_number w64 (search (ranges, sizes) depth 60 fits 9999) (search (ranges, sizes) depth 60 fits 9999) tt c.if-n-eq0.true)

pub returns : goal.returns
returns c =
    same_point
    (reads (search (ranges, sizes) depth 60 fits 9999) tt refl)
    (reads (search (ranges, sizes) depth 60 fits 9999) tt refl)
    (reads (search (ranges, sizes) depth 60 fits 9999) tt refl)
    ∙ divided _ _

pub nonzero_div-result : goal.nonzero_div-result
nonzero_div-result c = (omega arith, fits w64 (search (ranges, sizes) depth 60 fits 9999) tt)

pub nonzero_div-result-2 : goal.nonzero_div-result-2
nonzero_div-result-2 c = (omega arith, fits w64 (search (ranges, sizes) depth 60 fits 9999) tt)

pub nonzero_div-result-3 : goal.nonzero_div-result-3
nonzero_div-result-3 c = (omega arith, fits w64 (search (ranges, sizes) depth 60 fits 9999) tt)
