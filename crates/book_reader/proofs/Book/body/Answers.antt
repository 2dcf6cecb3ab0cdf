-- `book_reader::Book::body` meets its contract: the entry is right, so it has a kind and says where the body is. Assumes nothing.
use mathlib.Core.Path.{refl}
use Rattle.book.proofs.Contents.{body_at}
use Rattle.book_reader.proofs.Book.body.Goals as goal

pub invariant_of-result : goal.invariant_of-result
invariant_of-result c =
    let kind = rw c.unwrap-kind.ensures at c.try_from.ensures in
    record { within = (body_at c.args.self.now.laid c.requires kind c.number_at-at.ensures.0).room }

pub returns : goal.returns
returns c =
    let kind = rw c.unwrap-kind.ensures at c.try_from.ensures in
    (refl, body_at c.args.self.now.laid c.requires kind c.number_at-at.ensures.0)
