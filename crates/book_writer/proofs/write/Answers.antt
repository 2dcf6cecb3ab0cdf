-- `book_writer::write` meets its contract: a refusal writes nothing, and the book fits where it is written. Assumes
-- nothing.
use mathlib.Core.Path.{refl, sym}
use Rattle.std.proofs.lemmas.Result.{err_from_is_err_and}
use Rattle.book.proofs.Writing.{is_fifteen, is_one, is_fourteen, is_length, refused, booked}
use Rattle.book_writer.proofs.write.Goals as goal

pub returns-in_err-conics : goal.returns-in_err-conics
returns-in_err-conics c =
    let p = err_from_is_err_and c.from_residual.result c.from_residual.ensures.1 in
    let (own, wrong) = c.in_err-conics.ensures.err in
    let list = c.args.list.now in
    let book = c.args.book.now in
    rw (p.1, p.2, own) (refused list book refl (is_fifteen list book wrong))

pub returns-then-not-all_in_range : goal.returns-then-not-all_in_range
returns-then-not-all_in_range c =
    let list = c.args.list.now in
    let book = c.args.book.now in
    let (right, same) = c.in_ok-conics.ensures.ok in
    refused list book refl (is_one list book right (rw same at (sym c.if-not-all_in_range.ensures)))

pub returns-then-lacks_room : goal.returns-then-lacks_room
returns-then-lacks_room c =
    let list = c.args.list.now in
    let book = c.args.book.now in
    let (right, same) = c.in_ok-conics.ensures.ok in
    let range = rw same at (sym c.if-not-all_in_range.ensures) in
    refused list book refl (is_fourteen list book right range (rw same at (sym c.if-lacks_room.ensures)))

pub returns : goal.returns
returns c =
    let list = c.args.list.now in
    let book = c.args.book.now in
    let (right, same) = c.in_ok-conics.ensures.ok in
    let range = rw same at (sym c.if-not-all_in_range.ensures) in
    booked list book
    (is_length list book right range (rw same at (sym c.if-lacks_room.ensures)))
    (rw same at c.put_book.ensures)
