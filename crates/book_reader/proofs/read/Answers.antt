-- `book_reader::read` meets its contract: the code's tests are the definition's, one after the other. Assumes nothing.
use mathlib.Core.Path.{sym, ◌∙◌}
use native.Mathlib.Omega.{arith}
use Rattle.std.proofs.lemmas.Result.{err_from_is_err_and}
use Rattle.book.proofs.BodyKinds.{content_is}
use Rattle.book.proofs.Contents.{layout_right}
use Rattle.book.proofs.Reading.{is_twelve, is_thirteen, is_sixteen, is_content}
use Rattle.book_reader.proofs.read.Goals as goal

pub returns-in_err-laid : goal.returns-in_err-laid
returns-in_err-laid c =
    let p = err_from_is_err_and c.from_residual.result c.from_residual.ensures.1 in
    let (layout, wrong) = c.in_err-laid.ensures.err in
    rw (p.1, p.2, layout) (record { answer = sym (is_twelve c.args.book.now c.args.number wrong) })

pub returns-then-not-bodies_hold : goal.returns-then-not-bodies_hold
returns-then-not-bodies_hold c =
    let laid = c.in_ok-laid.laid in
    let right = (layout_right laid.bytes.now).1 laid.laid in
    rw (sym c.in_ok-laid.ensures.ok)
    (record { answer = sym (is_thirteen laid.bytes.now c.args.number right (sym c.if-not-bodies_hold.ensures)) })

pub returns-then-number-count : goal.returns-then-number-count
returns-then-number-count c =
    let laid = c.in_ok-laid.laid in
    let right = (layout_right laid.bytes.now).1 laid.laid in
    rw (sym c.in_ok-laid.ensures.ok)
    (record {
      answer = sym (is_sixteen laid.bytes.now c.args.number right (sym c.if-not-bodies_hold.ensures) (omega arith));
    })

pub returns : goal.returns
returns c =
    let laid = c.in_ok-laid.laid in
    let right = (layout_right laid.bytes.now).1 laid.laid in
    let (same, here) = c.body.ensures in
    rw (sym c.in_ok-laid.ensures.ok)
    (record {
      answer =
          rw same at c.content.ensures ∙ content_is here
          ∙ sym (is_content laid.bytes.now c.args.number right (sym c.if-not-bodies_hold.ensures) (omega arith));
    })
