-- What the entries ask of a base, a target and a direction. Assumes nothing.
use Rattle.std.specs.Prelude.{Bool, ◌&&◌, not, eqb, pos}
use Rattle.std.specs.Int.Signed.{lt_z}
use Rattle.point.specs.Normal.{common_factor, leading}
use Rattle.point.specs.Paper.{point_in_limit, direction_in_limit, is_zero}
use Rattle.point.specs.declared.Point.{Point}
use Rattle.point.specs.declared.Direction.{Direction}

-- in normal form
unfoldable pub is_normal : Point → Bool
is_normal p = eqb (common_factor p) 1 && lt_z (pos 0) (leading p)

-- in limit and in normal form with z > 0
unfoldable pub is_base : Point → Bool
is_base p = point_in_limit p && is_normal p && lt_z (pos 0) p.z

-- in limit and in normal form
unfoldable pub is_target : Point → Bool
is_target q = point_in_limit q && is_normal q

-- not (0, 0), and in limit
unfoldable pub is_direction : Direction → Bool
is_direction t = not (is_zero t.u && is_zero t.v) && direction_in_limit t
