-- The loop of `rows::feed` keeps `Going`: what it has so far, followed by what the definition makes of the rest, is
-- what the definition makes of the piece. Assumes nothing.
use Rattle.rows.proofs.Going.{Going}
use Rattle.rows.proofs.feed.Given as goal

abbrev pub invariant-loop-taken : goal.invariant-loop-taken
invariant-loop-taken l = Going l.initial.cutter l.piece l.initial.out l.cutter l.taken l.written l.out
