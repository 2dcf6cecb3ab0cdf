-- `solve::Curve::from_primed` meets its contract: by the sizes of D, k and X', Y', W' each step fits. Assumes nothing.
use mathlib.Core.Path.{◌≡◌, refl, ◌∙◌}
use lib.IntN.{pos, ◌+ℤ◌, ◌-ℤ◌, ◌*ℤ◌}
use mir.Syntax.{w64}
use Rattle.whole.proofs.Signed.{sizes, fits, reads}
use Rattle.point.specs.declared.Point.{Point}
use Rattle.point.proofs.Vector.{same_point}
use Rattle.conic.specs.Form.{D, k}
use Rattle.conic.specs.declared.conic.Conic.{Conic}
use Rattle.conic.proofs.Bounds.{formSizes}
use Rattle.solve.specs.Level.{from_primed}
use Rattle.solve.proofs.Curve.from_primed.Goals as goal

written_out :
    (h : Conic) (m : Point) →
    record {
      x = pos 2 *ℤ D h *ℤ m.x -ℤ pos 2 *ℤ h.b *ℤ m.y +ℤ h.b *ℤ k h *ℤ m.z -ℤ h.d *ℤ D h *ℤ m.z;
      y = pos 4 *ℤ h.a *ℤ m.y -ℤ pos 2 *ℤ h.a *ℤ k h *ℤ m.z;
      z = pos 2 *ℤ h.a *ℤ D h *ℤ m.z;
    } ≡ from_primed h m
unfolding from_primed
written_out h m = refl

pub returns : goal.returns
returns c =
    same_point
    (reads (search (formSizes, sizes) depth 60 fits 9999) tt refl)
    (reads (search (formSizes, sizes) depth 60 fits 9999) tt refl)
    (reads (search (formSizes, sizes) depth 60 fits 9999) tt refl)
    ∙ written_out _ _

pub overflow_mul-result : goal.overflow_mul-result
overflow_mul-result c = fits w64 (search (formSizes, sizes) depth 60 fits 9999) tt

pub overflow_mul-result-2 : goal.overflow_mul-result-2
overflow_mul-result-2 c = fits w64 (search (formSizes, sizes) depth 60 fits 9999) tt

pub overflow_mul-result-4 : goal.overflow_mul-result-4
overflow_mul-result-4 c = fits w64 (search (formSizes, sizes) depth 60 fits 9999) tt

pub overflow_sub-result : goal.overflow_sub-result
overflow_sub-result c = fits w64 (search (formSizes, sizes) depth 60 fits 9999) tt

pub overflow_mul-result-5 : goal.overflow_mul-result-5
overflow_mul-result-5 c = fits w64 (search (formSizes, sizes) depth 60 fits 9999) tt

pub overflow_mul-result-6 : goal.overflow_mul-result-6
overflow_mul-result-6 c = fits w64 (search (formSizes, sizes) depth 60 fits 9999) tt

pub overflow_add-result : goal.overflow_add-result
overflow_add-result c = fits w64 (search (formSizes, sizes) depth 60 fits 9999) tt

pub overflow_mul-result-7 : goal.overflow_mul-result-7
overflow_mul-result-7 c = fits w64 (search (formSizes, sizes) depth 60 fits 9999) tt

pub overflow_mul-result-8 : goal.overflow_mul-result-8
overflow_mul-result-8 c = fits w64 (search (formSizes, sizes) depth 60 fits 9999) tt

pub overflow_sub-result-2 : goal.overflow_sub-result-2
overflow_sub-result-2 c = fits w64 (search (formSizes, sizes) depth 60 fits 9999) tt

pub overflow_mul-result-10 : goal.overflow_mul-result-10
overflow_mul-result-10 c = fits w64 (search (formSizes, sizes) depth 60 fits 9999) tt

pub overflow_mul-result-12 : goal.overflow_mul-result-12
overflow_mul-result-12 c = fits w64 (search (formSizes, sizes) depth 60 fits 9999) tt

pub overflow_mul-result-13 : goal.overflow_mul-result-13
overflow_mul-result-13 c = fits w64 (search (formSizes, sizes) depth 60 fits 9999) tt

pub overflow_sub-result-3 : goal.overflow_sub-result-3
overflow_sub-result-3 c = fits w64 (search (formSizes, sizes) depth 60 fits 9999) tt

pub overflow_mul-result-15 : goal.overflow_mul-result-15
overflow_mul-result-15 c = fits w64 (search (formSizes, sizes) depth 60 fits 9999) tt

pub overflow_mul-result-16 : goal.overflow_mul-result-16
overflow_mul-result-16 c = fits w64 (search (formSizes, sizes) depth 60 fits 9999) tt
