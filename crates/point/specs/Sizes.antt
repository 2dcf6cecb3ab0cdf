-- The sizes of a point's numbers and of a line's. Assumes nothing.
use Rattle.std.specs.Prelude.{ℕ, ◌≤◌, nat_abs}
use Rattle.point.specs.Paper.{direction_limit}
use Rattle.point.specs.declared.Point.{Point}

-- each number of the point is at most n
pub record PointWithin (n : ℕ) (p : Point) : Type 0 where
  pub x_within : nat_abs p.x ≤ n
  pub y_within : nat_abs p.y ≤ n
  pub z_within : nat_abs p.z ≤ n

-- T, a direction (z = 0) or a trial line (z = 1)
pub record LineWithin (t : Point) : Type 0 where
  pub x_within : nat_abs t.x ≤ direction_limit
  pub y_within : nat_abs t.y ≤ direction_limit
  pub z_within : nat_abs t.z ≤ 1
