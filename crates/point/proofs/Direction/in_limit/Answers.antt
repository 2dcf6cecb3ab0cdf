-- `point::Direction::in_limit` meets its contract, test by test. Assumes nothing.
use Rattle.point.specs.Paper.{direction_in_limit}
use Rattle.point.proofs.Passed.{tested}
use Rattle.point.proofs.Direction.in_limit.Goals as goal

pub returns : goal.returns
unfolding direction_in_limit
returns c = search tested depth 60 fits 9999
