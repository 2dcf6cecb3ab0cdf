-- `legendre::equation::Equation::row` meets its contract: X below the side of the box is in it, and where the side is reached the row
-- holds no solution. Assumes nothing.
use native.Mathlib.Omega.{arith}
use Rattle.legendre.proofs.Choice.{within_side_iff}
use Rattle.legendre.proofs.Walks.{row_end}
use Rattle.legendre.proofs.equation.Equation.row.Goals as goal

pub height-requires : goal.height-requires
height-requires c =
    let e = c.args.self in
    record { row = c.requires.row; x_within = (within_side_iff e.g e.q).0 (omega (arith, c.requires.side)) }

pub returns : goal.returns
returns c = row_end c.loop-x.invariant (omega (arith, c.requires.side))
