-- `book_writer::List::new` meets its contract: the runs of six bytes are as many as a list's conics. Assumes nothing.
use mathlib.Core.Path.{refl, sym, ap, ◌∙◌}
use native.Mathlib.Omega.{arith}
use borrow.Author.Tests.{eqb-true, eqb-false}
use Rattle.book.specs.Steps.{conics_in}
use Rattle.book.proofs.Listed.{listed}
use Rattle.book.proofs.Writing.{not_sixes, too_long}
use Rattle.book_writer.proofs.List.new.Goals as goal
use Rattle.book_writer.proofs.List.new.Goals.{then-not-is_empty-via-then-not-is_empty, then-not-is_empty-via-else-not-is_empty+then-conics-gt-COUNT_LIMIT}

pub returns-then-not-is_empty-clause-err : goal.returns-then-not-is_empty-clause-err
returns-then-not-is_empty-clause-err c =
    let list = c.args.list.now in
    elim c.then-not-is_empty.branch [
      | then-not-is_empty-via-then-not-is_empty w ↦ (
        refl,
        not_sixes list (λ e.
            eqb-false _ _ (sym c.is_empty.ensures ∙ w.if-not-is_empty.true) (c.as_chunks.ensures.back_len ∙ e)),
      )
      | then-not-is_empty-via-else-not-is_empty+then-conics-gt-COUNT_LIMIT w ↦
          (refl, too_long list (omega (arith, w.if-conics-gt-COUNT_LIMIT.true, c.as_chunks.ensures.front_len)))
    ]

pub returns-clause-ok : goal.returns-clause-ok
returns-clause-ok c =
    let none = eqb-true _ 0 (sym c.is_empty.ensures ∙ c.if-not-is_empty.false) in
    let rest = c.as_chunks.ensures.back_len in
    let runs = c.as_chunks.ensures.front_len in (
      record {
        sixes = omega (arith, none, rest);
        at_most = omega (arith, none, rest, runs, c.if-conics-gt-COUNT_LIMIT.false);
      },
      ap conics_in c.as_chunks.ensures.front ∙ listed c.args.list.now,
    )
