-- Finishing is refused exactly for its cause, since a buffer is, whatever is to be written. Assumes nothing.
use Rattle.row.proofs.Refusals.{buffer_refused}
use Rattle.rows.specs.Cutter.{finish_of}
use Rattle.rows.specs.Refusals.{FinishRefusesExactly}

pub finish_refuses_exactly : FinishRefusesExactly
unfolding FinishRefusesExactly
finish_refuses_exactly c before r left n p = buffer_refused before (finish_of c) n p.answer
