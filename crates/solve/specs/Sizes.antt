-- The sizes within which levelling and the way back are exact: of the parts of D and aΔ, and of X', Y' and W'. Assumes nothing.
use Rattle.std.specs.Prelude.{◌≢◌, ℕ, ◌≤◌, pos, nat_abs, ◌<ℤ◌}
use Rattle.legendre.specs.declared.outcome.Triple.{Triple}
use Rattle.number.specs.declared.splitting.Parts.{Parts}
use Rattle.point.specs.Normal.{largest}
use Rattle.point.specs.declared.Point.{Point}
use Rattle.solve.specs.Level.{primed}
use Rattle.solve.specs.declared.level.Level.{Level}

-- Sizes of X', Y', W', the roots of |aΔ|, |D·aΔ| and |D| at the largest coefficients: these three are to be written anew for another
-- limit

abbrev pub limit_X' : ℕ
limit_X' = 4_525

abbrev pub limit_Y' : ℕ
limit_Y' = 404_771

abbrev pub limit_W' : ℕ
limit_W' = 89

pub record PrimedWithin (m : Point) : Type 0 where
  pub x_within : nat_abs m.x ≤ limit_X'
  pub y_within : nat_abs m.y ≤ limit_Y'
  pub z_within : nat_abs m.z ≤ limit_W'

-- the parts of D = ds² and aΔ = et²
pub record PartsWithin (d e : Parts) : Type 0 where
  pub d_not_zero : d.free ≢ pos 0
  pub d_within : nat_abs d.free ≤ largest
  pub s_within : d.square ≤ largest
  pub e_within : nat_abs e.free ≤ largest
  pub t_within : e.square ≤ largest

-- a level and a solution, where tX, stgY and sW are small
pub record Carries (v : Level) (m : Triple) : Type 0 where
  pub s_positive : pos 0 <ℤ v.s
  pub t_positive : pos 0 <ℤ v.t
  pub g_positive : pos 0 <ℤ v.g
  pub primed_within : PrimedWithin (primed v m)
