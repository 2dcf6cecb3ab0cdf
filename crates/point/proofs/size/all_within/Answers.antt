-- `point::size::all_within` meets its contract, test by test. Assumes nothing.
use Rattle.point.proofs.Passed.{tested}
use Rattle.point.proofs.size.all_within.Goals as goal

pub returns : goal.returns
returns c = search tested depth 60 fits 9999
