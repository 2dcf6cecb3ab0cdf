-- `book_writer::put_added` meets its contract: what the answer's arm adds is what the contract gives room for.
-- Assumes nothing.
use mathlib.Core.Path.{◌≡◌, ap, ◌∙◌}
use native.Mathlib.Omega.{arith}
use Rattle.std.specs.Prelude.{Ok, Err}
use Rattle.point.specs.Paper.{point, none_by_prime}
use Rattle.solve.specs.Answer.{reason_given, answered, solved}
use Rattle.book.specs.Bytes.{bytes}
use Rattle.book_writer.proofs.put_added.Goals as goal

pub put_point-requires : goal.put_point-requires
unfolding bytes
put_point-requires c =
    let arm = c.in-Ok-Ok in
    let inner : arm.field-0 ≡ Ok arm.p = rw arm.is at arm.field-0-is in
    let given : solved c.args.answer ≡ point arm.p = ap solved arm.is ∙ ap answered inner in
    (omega (arith, rw given at c.requires.room), c.requires.point_fits arm.p given)

pub put_number-requires : goal.put_number-requires
unfolding bytes
put_number-requires c =
    let arm = c.in-Ok-Err-Prime in
    let inner : arm.field-0 ≡ Err arm.field-0-0 = rw arm.is at arm.field-0-is in
    let why = rw (arm.is, inner) at arm.field-0-0-is in
    let given : solved c.args.answer ≡ none_by_prime arm.l =
    ap solved arm.is ∙ ap answered inner ∙ ap reason_given why in
    (omega (arith, rw given at c.requires.room), omega arith)
