-- Between two turns of `book_writer::List::put_book` the buffer is what `Between` says. Assumes nothing.
use Rattle.book.specs.Steps.{conics_in}
use Rattle.book.proofs.Between.{Between}
use Rattle.book_writer.proofs.List.put_book.Given as goal

abbrev pub invariant-loop-i : goal.invariant-loop-i
invariant-loop-i l = Between (conics_in l.self.conics.now) l.initial.book l.book l.offset l.i
