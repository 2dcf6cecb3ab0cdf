-- `conics::answer` ends: a turn takes at least a byte of what is left of the piece. Assumes nothing.
use Rattle.std.proofs.Common.{length}
use Rattle.conics.proofs.answer.Given as goal

abbrev pub decreases-loop-piece : goal.decreases-loop-piece
decreases-loop-piece g l = length l.piece
