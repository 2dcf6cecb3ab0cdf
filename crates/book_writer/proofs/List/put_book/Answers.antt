-- `book_writer::List::put_book` meets its contract: a conic that is written leaves what `Between` says, and at the end
-- the book is written. Assumes nothing.
use mathlib.Core.List.{[]}
use mathlib.Core.Path.{refl, sym, ap, ◌∙◌}
use native.Mathlib.Omega.{arith}
use Rattle.solve.specs.Solve.{solve_of}
use Rattle.book.specs.Steps.{conics_in}
use Rattle.book.proofs.Between.{between_start, next_fits, between_next, between_end}
use Rattle.book.proofs.Lengths.{length_book}
use Rattle.book.proofs.Listed.{length_listed, next_conic}
use Rattle.book_writer.proofs.List.put_book.Goals as goal

pub put_number-requires : goal.put_number-requires
put_number-requires c = (omega (arith, length_book (conics_in c.args.self.now.conics.now)), omega arith)

pub loop-i-init : goal.loop-i-init
loop-i-init c =
    let runs = c.args.self.now.conics.now in
    rw (sym (length_listed runs)) (between_start (conics_in runs) c.put_number.new.book)

pub put_conic-offset-requires : goal.put_conic-offset-requires
put_conic-offset-requires c =
    let runs = c.args.self.now.conics.now in
    let next = next_conic runs [] c.loop-i-test.true refl in (
      c.solve-answer.ensures.as_defined ∙ ap solve_of c.conic_at.ensures,
      next_fits (conics_in runs) c.loop-i.invariant next (omega (arith, c.requires, c.put_number.auto.book)),
    )

pub loop-i-preserved : goal.loop-i-preserved
loop-i-preserved c =
    let runs = c.args.self.now.conics.now in
    let next = next_conic runs [] c.loop-i-test.true refl in
    between_next (conics_in runs) c.loop-i.invariant next c.put_conic-offset.ensures

pub returns : goal.returns
returns c =
    let runs = c.args.self.now.conics.now in
    let hs = conics_in runs in
    let counted = rw (sym (length_listed runs)) at c.put_number.ensures in
    between_end hs c.args.book.now c.loop-i.invariant (omega (arith, length_listed runs, c.loop-i-test.false)) counted c.requires
