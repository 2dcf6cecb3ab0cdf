-- `point::Direction::is_direction` meets its contract, test by test. Assumes nothing.
use Rattle.point.specs.Legal.{is_direction}
use Rattle.point.proofs.Passed.{tested}
use Rattle.point.proofs.Direction.is_direction.Goals as goal

pub returns : goal.returns
unfolding is_direction
returns c = search tested depth 60 fits 9999
