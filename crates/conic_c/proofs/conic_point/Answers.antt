-- `conic_c::conic_point` meets its promise: the point is handed over as it is. Assumes nothing.
use Rattle.std.proofs.Common.{rules}
use Rattle.conic_c.proofs.conic_point.Goals as goal

pub returns-in-Ok : goal.returns-in-Ok
returns-in-Ok c = record { code_is = search rules; point_is = search rules }
