-- Between two turns of `book_writer::List::book_length` the bodies that are left make up what the total still misses.
-- Assumes nothing.
use mathlib.Core.Path.{◌≡◌}
use Prim.Native.Nat.{◌+◌}
use lib.ListN.{length, drop}
use Rattle.book.specs.Steps.{conics_in}
use Rattle.book.specs.Writer.{bodies, book_of}
use Rattle.book_writer.proofs.List.book_length.Given as goal

abbrev pub invariant-loop-six : goal.invariant-loop-six
invariant-loop-six l =
    let hs = conics_in l.self.conics.now in
    l.total + length (bodies (drop l.six-index hs)) ≡ length (book_of hs)
