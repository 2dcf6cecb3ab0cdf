-- `direction::chord` meets its contract: by the sizes of the numbers each step fits. Assumes nothing.
use mathlib.Core.Path.{◌≡◌, refl, ◌∙◌}
use lib.IntN.{◌-ℤ◌, ◌*ℤ◌}
use mir.Syntax.{w64}
use Rattle.whole.proofs.Signed.{sizes, fits, reads}
use Rattle.point.specs.declared.Point.{Point}
use Rattle.direction.specs.Direction.{chord}
use Rattle.direction.proofs.Directions.{same_direction}
use Rattle.direction.proofs.chord.Goals as goal

written_out : (p q : Point) → record { u = q.x *ℤ p.z -ℤ p.x *ℤ q.z; v = q.y *ℤ p.z -ℤ p.y *ℤ q.z } ≡ chord p q
unfolding chord
written_out p q = refl

pub returns : goal.returns
returns c =
    same_direction
    (reads (search sizes depth 60 fits 9999) tt refl)
    (reads (search sizes depth 60 fits 9999) tt refl)
    ∙ written_out _ _

pub overflow_mul-result : goal.overflow_mul-result
overflow_mul-result c = fits w64 (search sizes depth 60 fits 9999) tt

pub overflow_mul-result-2 : goal.overflow_mul-result-2
overflow_mul-result-2 c = fits w64 (search sizes depth 60 fits 9999) tt

pub overflow_sub-result : goal.overflow_sub-result
overflow_sub-result c = fits w64 (search sizes depth 60 fits 9999) tt

pub overflow_mul-result-3 : goal.overflow_mul-result-3
overflow_mul-result-3 c = fits w64 (search sizes depth 60 fits 9999) tt

pub overflow_mul-result-4 : goal.overflow_mul-result-4
overflow_mul-result-4 c = fits w64 (search sizes depth 60 fits 9999) tt

pub overflow_sub-result-2 : goal.overflow_sub-result-2
overflow_sub-result-2 c = fits w64 (search sizes depth 60 fits 9999) tt
