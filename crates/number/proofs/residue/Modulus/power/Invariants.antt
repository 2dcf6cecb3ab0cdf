-- The loop of `number::residue::Modulus::power`: result·squareˡᵉᶠᵗ leaves what the power leaves. The measure is what is left of
-- the exponent. Assumes nothing.
use mathlib.Core.Path.{◌≡◌}
use Prim.Native.Nat.{◌*◌, ◌^◌, ◌%◌, ◌<◌}
use Rattle.number.proofs.residue.Modulus.power.Given as goal

abbrev pub invariant-loop-left : goal.invariant-loop-left
invariant-loop-left l =
    (l.result < l.self.n) × (l.square < l.self.n) × (l.result * l.square ^ l.left % l.self.n ≡ l.base ^ l.exponent % l.self.n)

abbrev pub decreases-loop-left : goal.decreases-loop-left
decreases-loop-left l = l.left
