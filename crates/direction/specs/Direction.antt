-- Directions from a base point: the step from a direction to a point and the step from a point to a direction, over all whole
-- numbers; and the two entries, with their refusals in the paper's order. Assumes nothing.
use Rattle.std.specs.Prelude.{Bool, ◌&&◌, cond, ℕ, neg_ℤ, ◌-ℤ◌, ◌*ℤ◌, ◌≡◌, Result, Ok, Err}
use Rattle.point.specs.Normal.{normal, normal_direction, at_infinity}
use Rattle.point.specs.Paper.{Verdict, point, refusal, is_zero, number}
use Rattle.point.specs.Legal.{is_target, is_direction}
use Rattle.point.specs.declared.paper.Refusal.{Refusal}
use Rattle.point.specs.declared.Point.{Point}
use Rattle.point.specs.declared.Direction.{Direction}
use Rattle.conic.specs.Form.{G, Gx, Gy, drawn}
use Rattle.conic.specs.Base.{from_base}
use Rattle.conic.specs.declared.conic.Conic.{Conic}

-- Answers

-- a direction, or a refusal by its number
pub data Bearing : Type 0 where
  direction : Direction → Bearing
  no_direction : ℕ → Bearing

abbrev pub reached : Result Point Refusal → Verdict
reached (Ok p) = point p
reached (Err r) = refusal (number r)

abbrev pub directed : Result Direction Refusal → Bearing
directed (Ok t) = direction t
directed (Err r) = no_direction (number r)

-- The two steps

-- T = (u, v, 0) gives G(T)·P − L(P, T)·T in normal form
unfoldable pub point_from : Conic → Point → Direction → Point
point_from h p t = normal (drawn h p (at_infinity t))

-- (G_y, −G_x) at P
unfoldable pub tangent : Conic → Point → Direction
tangent h p = record { u = Gy h p; v = neg_ℤ (Gx h p) }

-- (Qx·Pz − Px·Qz, Qy·Pz − Py·Qz)
unfoldable pub chord : Point → Point → Direction
chord p q = record { u = q.x *ℤ p.z -ℤ p.x *ℤ q.z; v = q.y *ℤ p.z -ℤ p.y *ℤ q.z }

unfoldable pub is_same : Point → Point → Bool
is_same p q = is_zero (p.x -ℤ q.x) && is_zero (p.y -ℤ q.y) && is_zero (p.z -ℤ q.z)

-- the tangent where the target is the base
unfoldable pub direction_to : Conic → Point → Point → Direction
direction_to h p q = normal_direction (cond (is_same q p) (tangent h p) (chord p q))

-- The entries

unfoldable pub point_of : Conic → Point → Direction → Verdict
point_of h p t = from_base refusal h p (cond (is_direction t) (point (point_from h p t)) (refusal 7))

unfoldable pub direction_of : Conic → Point → Point → Bearing
direction_of h p q =
    from_base no_direction h p
    (cond (is_target q) (cond (is_zero (G h q)) (direction (direction_to h p q)) (no_direction 9)) (no_direction 8))

-- the promise of direction to point
pub record PointPromise (h : Conic) (p : Point) (t : Direction) (r : Result Point Refusal) : Type 0 where
  pub as_defined : reached r ≡ point_of h p t

-- the promise of point to direction
pub record DirectionPromise (h : Conic) (p q : Point) (r : Result Direction Refusal) : Type 0 where
  pub as_defined : directed r ≡ direction_of h p q
