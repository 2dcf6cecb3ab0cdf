-- The sizes within which the conic's polynomials are exact: its coefficients by the paper's limit, a point's numbers by another.
-- Assumes nothing.
use Rattle.std.specs.Prelude.{◌+◌, ◌*◌, ◌^◌, ◌≤◌, ◌<◌, ℤ, nat_abs}
use Rattle.point.specs.Paper.{coefficient_limit, point_limit}
use Rattle.point.specs.Sizes.{PointWithin, LineWithin}
use Rattle.point.specs.declared.Point.{Point}
use Rattle.conic.specs.declared.conic.Conic.{Conic}

-- the sum of three products fits, whatever the signs
pub record ProductsFit (a b c x y z : ℤ) : Type 0 where
  pub room : nat_abs a * nat_abs x + nat_abs b * nat_abs y + nat_abs c * nat_abs z < 2 ^ 63

-- each coefficient is at most the paper's limit
pub record InLimit (h : Conic) : Type 0 where
  pub a_within : nat_abs h.a ≤ coefficient_limit
  pub b_within : nat_abs h.b ≤ coefficient_limit
  pub c_within : nat_abs h.c ≤ coefficient_limit
  pub d_within : nat_abs h.d ≤ coefficient_limit
  pub e_within : nat_abs h.e ≤ coefficient_limit
  pub f_within : nat_abs h.f ≤ coefficient_limit

-- a conic and a point at which its polynomial fits
pub record ConicAt (h : Conic) (p : Point) : Type 0 where
  pub conic : InLimit h
  pub point : PointWithin point_limit p

-- a conic, a point S and a line T from it
pub record ConicAlong (h : Conic) (s t : Point) : Type 0 where
  pub conic : InLimit h
  pub from : PointWithin point_limit s
  pub along : LineWithin t
