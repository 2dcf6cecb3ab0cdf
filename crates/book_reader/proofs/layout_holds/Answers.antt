-- `book_reader::layout_holds` meets its contract: each test is of a part of the layout. Assumes nothing.
use mathlib.Core.Path.{sym, ◌∙◌}
use native.Mathlib.Omega.{arith}
use Rattle.book.proofs.Contents.{layout_wrong, layout_tested}
use Rattle.book_reader.proofs.layout_holds.Goals as goal

pub returns-then-book-lt2 : goal.returns-then-book-lt2
returns-then-book-lt2 c = sym (layout_wrong λ r. omega arith)

pub returns-then-count-gt-COUNT_LIMIT : goal.returns-then-count-gt-COUNT_LIMIT
returns-then-count-gt-COUNT_LIMIT c = sym (layout_wrong λ r. omega arith)

pub returns : goal.returns
returns c =
    c.eq.ensures
    ∙ layout_tested c.last_end.result c.if-book-lt2.false
    (record {
      count_is = c.number_at-count.ensures.0;
      count_at_most = c.if-count-gt-COUNT_LIMIT.false;
      room = c.if-book-count.false;
    })
    c.last_end.ensures.some c.last_end.ensures.none
