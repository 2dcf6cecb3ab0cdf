-- Between two turns of `book_reader::last_end` the entries before i are right, and their bodies end at `end`. Assumes nothing.
use mathlib.Core.Path.{◌≡◌}
use Prim.Native.Nat.{ℕ, ◌<◌}
use Rattle.book.specs.Reader.{bodies_end}
use Rattle.book.specs.Steps.{EntryRight}
use Rattle.book_reader.proofs.last_end.Given as goal

abbrev pub invariant-loop-i : goal.invariant-loop-i
invariant-loop-i l = ((j : ℕ) → j < l.i → EntryRight l.book j) × (l.end ≡ bodies_end l.book l.i)
