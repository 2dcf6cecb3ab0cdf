-- `point::Direction::normal` meets its contract: it takes the first two numbers of the point's normal form. Assumes nothing.
use mathlib.Core.Path.{◌≡◌, refl, ap, ◌∙◌}
use mir.Syntax.{w64}
use mir.Val.{SFits, to_z, of_z}
use mir.Facts.{to_z-of_z}
use borrow.Author.Rules.{sfits_of}
use Rattle.point.specs.Normal.{normal_within, at_infinity, normal_direction_within}
use Rattle.point.specs.declared.Point.{Point}
use Rattle.point.specs.declared.Direction.{Direction}
use Rattle.point.proofs.Vector.{same_point}
use Rattle.point.proofs.Direction.normal.Goals as goal

first_two : (p : Point) (t : Direction) → SFits w64 p.x → SFits w64 p.y →
    p ≡ normal_within (record { x = to_z w64 (of_z w64 t.u); y = to_z w64 (of_z w64 t.v); z = to_z w64 0 }) →
    SFits w64 t.u → SFits w64 t.v →
    record { u = to_z w64 (of_z w64 p.x); v = to_z w64 (of_z w64 p.y) } ≡ normal_direction_within t
unfolding normal_direction_within at_infinity
first_two p t f g e h k =
    let is : p ≡ normal_within (at_infinity t) = e ∙ ap normal_within (same_point (to_z-of_z h) (to_z-of_z k) refl) in
    λ i. record { u = (to_z-of_z f ∙ ap (λ q. q.x) is) i; v = (to_z-of_z g ∙ ap (λ q. q.y) is) i }

pub returns : goal.returns
returns c =
    let start = c.before.before in
    first_two _ (record { u = start.args.u; v = start.args.v }) (search sfits_of) (search sfits_of) c.normal-p.ensures start.ranges.u start.ranges.v
