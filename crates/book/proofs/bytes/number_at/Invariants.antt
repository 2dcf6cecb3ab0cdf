-- Between two turns of `book::bytes::number_at` the number is that of the bytes from i on. Assumes nothing.
use mathlib.Core.Path.{◌≡◌}
use Prim.Native.Nat.{◌+◌, ◌-◌}
use Rattle.book.specs.Bytes.{number_at}
use Rattle.book.proofs.bytes.number_at.Given as goal

abbrev pub invariant-loop-i : goal.invariant-loop-i
invariant-loop-i g l = l.number ≡ number_at (g.row.N - l.i) l.book (l.at + l.i)
