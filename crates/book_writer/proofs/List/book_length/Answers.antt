-- `book_writer::List::book_length` meets its contract: each conic's body is as long as its kind says, and no book is
-- too long to count. Assumes nothing.
use mathlib.Core.List.{[]}
use mathlib.Core.Path.{◌≡◌, refl, ap, ◌∙◌}
use native.Mathlib.Omega.{arith}
use lib.ListN.{get_or}
use Rattle.solve.specs.Solve.{solve_of}
use Rattle.book.specs.Kinds.{kind_number}
use Rattle.book.specs.Layout.{body_length, kind_of, conic_at}
use Rattle.book.specs.Steps.{conics_in}
use Rattle.book.proofs.BodyKinds.{length_at_most}
use Rattle.book.proofs.Lengths.{length_book, book_at_most, length_left, length_none}
use Rattle.book.proofs.Listed.{length_listed, next_conic}
use Rattle.book_writer.proofs.List.book_length.Goals as goal

pub loop-six-init : goal.loop-six-init
loop-six-init c =
    let runs = c.args.self.now.conics.now in omega (arith, length_book (conics_in runs), length_listed runs)

pub overflow_add-total-in-loop-six : goal.overflow_add-total-in-loop-six
overflow_add-total-in-loop-six c =
    let runs = c.args.self.now.conics.now in
    omega (
      arith,
      c.loop-six.invariant,
      book_at_most (conics_in runs),
      length_listed runs,
      c.args.self.now.at_most,
      length_at_most (kind_number c.kind_of-kind.result),
      c.body_length-total.ensures,
    )

pub loop-six-preserved : goal.loop-six-preserved
loop-six-preserved c =
    let runs = c.args.self.now.conics.now in
    let h = conic_at (get_or runs c.loop-six.six-index []) 0 in
    let kind : kind_number c.kind_of-kind.result ≡ kind_of (solve_of h) =
    c.kind_of-kind.ensures ∙ ap kind_of (c.solve.ensures.as_defined ∙ ap solve_of c.conic_at.ensures) in
    let long : c.body_length-total.result ≡ body_length (kind_of (solve_of h)) =
    c.body_length-total.ensures ∙ ap body_length kind in
    omega (arith, c.loop-six.invariant, long, length_left (next_conic runs [] c.loop-six-test.true refl))

pub returns : goal.returns
returns c =
    let end = c.loop-six-test.false in
    let runs = c.args.self.now.conics.now in
    let none = length_none (conics_in runs) {i = c.loop-six.six-index} (omega (arith, length_listed runs)) in
    omega (arith, c.loop-six.invariant, none)
