-- The loop of `number::residue::Residue::tonelli_shanks`: products modulo the prime are below it. The measure is the exponent
-- left to try, which halves. Assumes nothing.
use Prim.Native.Nat.{◌<◌}
use Rattle.number.proofs.residue.Residue.tonelli_shanks.Given as goal

abbrev pub invariant-loop-half : goal.invariant-loop-half
invariant-loop-half l = (l.root < l.prime) × (l.excess < l.prime) × (l.factor < l.prime)

abbrev pub decreases-loop-half : goal.decreases-loop-half
decreases-loop-half l = l.half
