-- `point::Point::is_target` meets its contract, test by test. Assumes nothing.
use Rattle.point.specs.Legal.{is_target}
use Rattle.point.proofs.Passed.{tested}
use Rattle.point.proofs.Point.is_target.Goals as goal

pub returns : goal.returns
unfolding is_target
returns c = search tested depth 60 fits 9999
