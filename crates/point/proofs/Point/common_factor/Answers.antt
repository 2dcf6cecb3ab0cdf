-- `point::Point::common_factor` meets its contract, call by call. Assumes nothing.
use Rattle.point.specs.Normal.{common_factor}
use Rattle.point.proofs.Passed.{factors}
use Rattle.point.proofs.Point.common_factor.Goals as goal

pub returns : goal.returns
unfolding common_factor
returns c = search factors depth 60 fits 9999
