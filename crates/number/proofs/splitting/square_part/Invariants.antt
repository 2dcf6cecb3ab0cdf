-- The loop of `number::splitting::square_part` keeps `Trial`: the root taken out times the square part of what is left
-- is the square part of n. The measure is what is left plus the way of the divisor to its limit. Assumes nothing.
use Prim.Native.Nat.{◌+◌, ◌-◌}
use Rattle.number.proofs.TrialDivision.{divisor_limit, Trial}
use Rattle.number.proofs.splitting.square_part.Given as goal

abbrev pub invariant-loop-divisor : goal.invariant-loop-divisor
invariant-loop-divisor l = Trial l.n l.rest l.square l.divisor

abbrev pub decreases-loop-divisor : goal.decreases-loop-divisor
decreases-loop-divisor l = l.rest + (divisor_limit - l.divisor)
