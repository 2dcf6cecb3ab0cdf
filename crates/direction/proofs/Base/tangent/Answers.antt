-- `direction::Base::tangent` meets its contract: the derivatives have negations. Assumes nothing.
use mathlib.Core.Path.{◌≡◌, refl, ◌∙◌}
use lib.IntN.{pos, neg_ℤ, ◌-ℤ◌, +ℤ_idl}
use mir.Syntax.{w64}
use Rattle.whole.proofs.Signed.{sizes, fits, reads}
use Rattle.point.specs.declared.Point.{Point}
use Rattle.conic.specs.Form.{Gx, Gy}
use Rattle.conic.specs.declared.conic.Conic.{Conic}
use Rattle.conic.proofs.Bounds.{formSizes}
use Rattle.direction.specs.Direction.{tangent}
use Rattle.direction.proofs.Directions.{same_direction}
use Rattle.direction.proofs.Base.tangent.Goals as goal

written_out : (h : Conic) (p : Point) → record { u = Gy h p; v = pos 0 -ℤ Gx h p } ≡ tangent h p
unfolding tangent
written_out h p = same_direction refl (+ℤ_idl (neg_ℤ (Gx h p)))

pub returns : goal.returns
returns c =
    same_direction
    (reads (search (formSizes, sizes) depth 60 fits 9999) tt refl)
    (reads (search (formSizes, sizes) depth 60 fits 9999) tt refl)
    ∙ written_out _ _

pub overflow_sub-result : goal.overflow_sub-result
overflow_sub-result c = fits w64 (search (formSizes, sizes) depth 60 fits 9999) tt
