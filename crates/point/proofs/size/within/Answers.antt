-- `point::size::within` meets its contract: the size is the library's. Assumes nothing.
use mir.Facts.{to_z-of_z}
use Rattle.point.specs.Paper.{within}
use Rattle.point.proofs.size.within.Goals as goal

pub returns : goal.returns
unfolding within
returns c = rw (c.from.ensures, c.unsigned_abs.ensures.value, to_z-of_z c.ranges.n)
