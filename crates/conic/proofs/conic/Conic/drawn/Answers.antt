-- `conic::conic::Conic::drawn` meets its contract: by the sizes of G and L each step fits. Assumes nothing.
use mathlib.Core.Path.{◌≡◌, refl, ◌∙◌}
use lib.IntN.{◌-ℤ◌, ◌*ℤ◌}
use mir.Syntax.{w64}
use Rattle.whole.proofs.Signed.{sizes, fits, reads}
use Rattle.point.specs.declared.Point.{Point}
use Rattle.point.proofs.Vector.{same_point}
use Rattle.conic.specs.Form.{G, L, drawn}
use Rattle.conic.specs.declared.conic.Conic.{Conic}
use Rattle.conic.proofs.Bounds.{formSizes}
use Rattle.conic.proofs.conic.Conic.drawn.Goals as goal

written_out :
    (h : Conic) (s t : Point) →
    record {
      x = G h t *ℤ s.x -ℤ L h s t *ℤ t.x;
      y = G h t *ℤ s.y -ℤ L h s t *ℤ t.y;
      z = G h t *ℤ s.z -ℤ L h s t *ℤ t.z;
    } ≡ drawn h s t
unfolding drawn
written_out h s t = refl

pub returns : goal.returns
returns c =
    same_point
    (reads (search (formSizes, sizes) depth 60 fits 9999) tt refl)
    (reads (search (formSizes, sizes) depth 60 fits 9999) tt refl)
    (reads (search (formSizes, sizes) depth 60 fits 9999) tt refl)
    ∙ written_out _ _ _

pub overflow_mul-result : goal.overflow_mul-result
overflow_mul-result c = fits w64 (search (formSizes, sizes) depth 60 fits 9999) tt

pub overflow_mul-result-2 : goal.overflow_mul-result-2
overflow_mul-result-2 c = fits w64 (search (formSizes, sizes) depth 60 fits 9999) tt

pub overflow_sub-result : goal.overflow_sub-result
overflow_sub-result c = fits w64 (search (formSizes, sizes) depth 60 fits 9999) tt

pub overflow_mul-result-3 : goal.overflow_mul-result-3
overflow_mul-result-3 c = fits w64 (search (formSizes, sizes) depth 60 fits 9999) tt

pub overflow_mul-result-4 : goal.overflow_mul-result-4
overflow_mul-result-4 c = fits w64 (search (formSizes, sizes) depth 60 fits 9999) tt

pub overflow_sub-result-2 : goal.overflow_sub-result-2
overflow_sub-result-2 c = fits w64 (search (formSizes, sizes) depth 60 fits 9999) tt

pub overflow_mul-result-5 : goal.overflow_mul-result-5
overflow_mul-result-5 c = fits w64 (search (formSizes, sizes) depth 60 fits 9999) tt

pub overflow_mul-result-6 : goal.overflow_mul-result-6
overflow_mul-result-6 c = fits w64 (search (formSizes, sizes) depth 60 fits 9999) tt

pub overflow_sub-result-3 : goal.overflow_sub-result-3
overflow_sub-result-3 c = fits w64 (search (formSizes, sizes) depth 60 fits 9999) tt
