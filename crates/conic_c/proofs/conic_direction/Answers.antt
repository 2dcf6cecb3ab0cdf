-- `conic_c::conic_direction` meets its promise: the direction is handed over as it is. Assumes nothing.
use Rattle.std.proofs.Common.{rules}
use Rattle.conic_c.proofs.conic_direction.Goals as goal

pub returns-in-Ok : goal.returns-in-Ok
returns-in-Ok c = record { code_is = search rules; direction_is = search rules }
