-- A point that is a legal base on a conic is a right point of demand 2, and the other way round. Assumes nothing.
use mathlib.Core.Bool.{true}
use mathlib.Core.Path.{◌≡◌}
use lib.IntN.{pos}
use Rattle.point.specs.Legal.{is_base}
use Rattle.point.specs.Paper.{point_in_limit}
use Rattle.point.specs.declared.Point.{Point}
use Rattle.point.proofs.Limits.{point_in_limit_lem, within_point}
use Rattle.point.proofs.Tests.{is_base_iff}
use Rattle.conic.specs.Form.{G}
use Rattle.conic.specs.declared.conic.Conic.{Conic}
use Rattle.solve.specs.Demand2.{RightPoint}

pub legal_is_right : (h : Conic) (p : Point) → is_base p ≡ true → G h p ≡ pos 0 → RightPoint h p
legal_is_right h p base on =
    let (within, normal, above) = is_base_iff.0 base in
    let small = point_in_limit_lem p within in
    record {
      on = on;
      normal_form = normal;
      in_plane = above;
      x_within = small.x_within;
      y_within = small.y_within;
      z_within = small.z_within;
    }

pub right_is_legal : {h : Conic} {p : Point} → RightPoint h p → is_base p ≡ true
unfolding point_in_limit
right_is_legal {h} {p} right =
    is_base_iff.1
    (within_point {p = p} (record { x_within = right.x_within; y_within = right.y_within; z_within = right.z_within }), right.normal_form, right.in_plane)
