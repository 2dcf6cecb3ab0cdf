-- `book_writer::List::lacks_room` meets its contract: no book is longer than 2 bytes and 21 for each conic. Assumes nothing.
use mathlib.Core.Path.{sym}
use native.Mathlib.Omega.{arith}
use lib.ListN.{length}
use borrow.Author.Tests.{le-ltb}
use Rattle.book.specs.Steps.{conics_in}
use Rattle.book.specs.Writer.{book_of}
use Rattle.book.proofs.Lengths.{book_at_most}
use Rattle.book.proofs.Listed.{length_listed}
use Rattle.book_writer.proofs.List.lacks_room.Goals as goal

pub returns-then-self-room : goal.returns-then-self-room
returns-then-self-room c =
    let runs = c.args.self.now.conics.now in
    let hs = conics_in runs in
    sym (le-ltb c.args.room (length (book_of hs)) (omega (arith, book_at_most hs, length_listed runs)))
