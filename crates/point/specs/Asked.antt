-- What is asked of a base, a target and a direction, in the paper's words: the tests ask for exactly that. Assumes
-- nothing.
use Rattle.std.specs.Prelude.{◌≡◌, ◌↔◌, T, ◌≤◌, pos, nat_abs, ◌<ℤ◌}
use Rattle.point.specs.Normal.{NormalForm}
use Rattle.point.specs.Paper.{point_limit, direction_limit}
use Rattle.point.specs.Legal.{is_base, is_target, is_direction}
use Rattle.point.specs.Sizes.{PointWithin}
use Rattle.point.specs.declared.Point.{Point}
use Rattle.point.specs.declared.Direction.{Direction}

pub record Base (p : Point) : Type 0 where
  pub in_limit : PointWithin point_limit p
  pub normal_form : NormalForm p
  pub in_plane : pos 0 <ℤ p.z

pub record Target (q : Point) : Type 0 where
  pub in_limit : PointWithin point_limit q
  pub normal_form : NormalForm q

pub record LegalDirection (t : Direction) : Type 0 where
  pub not_both_zero : ¬ ((t.u ≡ pos 0) × (t.v ≡ pos 0))
  pub u_within : nat_abs t.u ≤ direction_limit
  pub v_within : nat_abs t.v ≤ direction_limit

unfoldable pub BaseExactly : Type 0
BaseExactly = (p : Point) → T (is_base p) ↔ Base p

unfoldable pub TargetExactly : Type 0
TargetExactly = (q : Point) → T (is_target q) ↔ Target q

unfoldable pub DirectionExactly : Type 0
DirectionExactly = (t : Direction) → T (is_direction t) ↔ LegalDirection t
