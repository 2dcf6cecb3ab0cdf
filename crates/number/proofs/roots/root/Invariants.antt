-- The loop of `number::roots::root`: the guess is above 0, at most 2³² and not below the root. The measure is the
-- guess, which falls while n / guess is below it. Assumes nothing.
use Prim.Native.Nat.{ℕ, suc, ◌*◌, ◌^◌, ◌≤◌, ◌<◌}
use Rattle.number.proofs.roots.root.Given as goal

abbrev pub NotBelow : ℕ → ℕ → Type 0
NotBelow n guess = (0 < guess) × (guess ≤ 2 ^ 32) × (n < suc guess * suc guess)

abbrev pub invariant-loop-guess : goal.invariant-loop-guess
invariant-loop-guess l = NotBelow l.n l.guess

abbrev pub decreases-loop-guess : goal.decreases-loop-guess
decreases-loop-guess l = l.guess
