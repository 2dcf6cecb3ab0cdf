-- `book_reader::Book::new` meets its contract: the test of a layout says that it is right. Assumes nothing.
use mathlib.Core.Path.{sym}
use Rattle.book.proofs.Contents.{layout_right}
use Rattle.book_reader.proofs.Book.new.Goals as goal

pub invariant_of-result : goal.invariant_of-result
invariant_of-result c = record { laid = (layout_right c.args.bytes.now).0 (sym c.if-layout_holds.ensures) }
