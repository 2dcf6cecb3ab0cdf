-- The loop of `legendre::failing::failing`. The invariant is `Trial`: the primes taken out of the size hold, and no number
-- below the divisor divides what is left. The measure is what is left plus the way of the divisor to its limit.
-- Assumes nothing.
use Prim.Native.Nat.{◌+◌, ◌-◌}
use Rattle.legendre.proofs.FailingPrimes.{divisor_limit, Trial}
use Rattle.legendre.proofs.failing.failing.Given as goal

abbrev pub invariant-loop-divisor : goal.invariant-loop-divisor
invariant-loop-divisor l = Trial l.size l.number l.rest l.divisor

abbrev pub decreases-loop-divisor : goal.decreases-loop-divisor
decreases-loop-divisor l = l.rest + (divisor_limit - l.divisor)
