-- `point::Point::is_base` meets its contract: a base is a target with z > 0. Assumes nothing.
use Rattle.point.specs.Legal.{is_base, is_target}
use Rattle.point.proofs.Passed.{tested}
use Rattle.point.proofs.Point.is_base.Goals as goal

pub returns : goal.returns
unfolding is_base is_target
returns c = search tested depth 60 fits 9999
