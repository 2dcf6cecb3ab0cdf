-- The loop of `number::residue::Residue::scan`: the square is that of the root modulo the prime, and no number below the root
-- is a root. Assumes nothing.
use mathlib.Core.Path.{◌≡◌}
use Prim.Native.Nat.{ℕ, ◌*◌, ◌%◌, ◌<◌}
use Rattle.number.proofs.residue.Residue.scan.Given as goal

abbrev pub invariant-loop-root : goal.invariant-loop-root
invariant-loop-root l =
    (l.square ≡ l.root * l.root % l.prime) × ((i : ℕ) → i < l.root → i * i % l.prime ≡ l.value → ⊥)
