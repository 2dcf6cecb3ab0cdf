-- `point::Point::normal` meets its contract: where each number has a negation, dividing by the common factor with the leading
-- sign is the normal form. Assumes nothing.
use mathlib.Core.Path.{◌≡◌, refl, sym, ap, ◌∙◌, subst}
use mathlib.Core.Bool.{◌&&◌}
use lib.IntN.{ℤ}
use mir.Syntax.{w64}
use mir.Val.{SFits, to_z, of_z}
use mir.Facts.{to_z-of_z}
use borrow.Author.Rules.{sfits_of}
use Rattle.point.specs.Normal.{common_factor, leading, signed, over, normal, largest}
use Rattle.point.specs.Paper.{within}
use Rattle.point.specs.Sizes.{PointWithin}
use Rattle.point.specs.declared.Point.{Point}
use Rattle.point.proofs.Limits.{point_within, normal_within_is_normal, normal_within_is_zero}
use Rattle.point.proofs.Passed.{passed, tested}
use Rattle.point.proofs.Vector.{same_point}
use Rattle.point.proofs.Point.normal.Goals.{After-has_negation-3, Start, Then-has_negation}
use Rattle.point.proofs.Point.normal.Goals as goal

-- the point as it is stored
abbrev stored : ℤ → ℤ → ℤ → Point
stored x y z = record { x = to_z w64 (of_z w64 x); y = to_z w64 (of_z w64 y); z = to_z w64 (of_z w64 z) }

stored_is : (x y z : ℤ) → SFits w64 x → SFits w64 y → SFits w64 z → record { x = x; y = y; z = z } ≡ stored x y z
stored_is x y z f g h = sym (same_point (to_z-of_z f) (to_z-of_z g) (to_z-of_z h))

divided : (p : Point) → over (signed (leading p) (common_factor p)) p ≡ normal p
unfolding normal
divided p = refl

abbrev given : Start → Point
given c = record { x = c.args.x; y = c.args.y; z = c.args.z }

given_is_stored : (c : Start) → given c ≡ stored c.args.x c.args.y c.args.z
given_is_stored c = stored_is _ _ _ c.ranges.x c.ranges.y c.ranges.z

negations : (c : After-has_negation-3) →
    c.has_negation.result && c.has_negation-2.result && c.has_negation-3.result
    ≡ within largest (given c.before.before.before).x && within largest (given c.before.before.before).y && within largest (given c.before.before.before).z
negations c = search tested depth 60 fits 9999

given_within : (c : Then-has_negation) → PointWithin largest (given c.before.before.before.before)
given_within c = point_within largest _ (sym (negations c.before) ∙ c.if-has_negation.true)

pub divisor-requires : goal.divisor-requires
divisor-requires c = subst (PointWithin largest) (given_is_stored c.before.before.before.before) (given_within c)

pub over-requires : goal.over-requires
over-requires c = divisor-requires c.before

pub returns-then-has_negation : goal.returns-then-has_negation
returns-then-has_negation c =
    let start = c.before.before.before.before.before.before in
    let p = stored start.args.x start.args.y start.args.z in
    passed (λ (n : ℤ). over n p) (search sfits_of) c.over.ensures
    ∙ ap (λ (n : ℤ). over n p) c.divisor.ensures
    ∙ divided p
    ∙ ap normal (sym (given_is_stored start))
    ∙ sym (normal_within_is_normal (given_within c.before.before))

pub returns-else-has_negation : goal.returns-else-has_negation
returns-else-has_negation c = sym (normal_within_is_zero (given c.before.before.before.before) (sym (negations c.before) ∙ c.if-has_negation.false))
