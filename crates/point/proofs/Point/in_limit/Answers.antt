-- `point::Point::in_limit` meets its contract. Assumes nothing.
use Rattle.point.specs.Paper.{point_in_limit}
use Rattle.point.proofs.Passed.{tested}
use Rattle.point.proofs.Point.in_limit.Goals as goal

pub returns : goal.returns
unfolding point_in_limit
returns c = search tested depth 60 fits 9999
