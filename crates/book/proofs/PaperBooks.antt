-- The paper's two books are those of the definition: its conic is one of the starred examples, and the rest is computed. Assumes nothing.
use mathlib.Core.List.{List}
use mathlib.Core.Path.{◌≡◌, refl, ap}
use lib.ListN.{get_or}
use Rattle.point.specs.Paper.{Verdict, none_by_sign}
use Rattle.solve.specs.Bench.{StarredExamples}
use Rattle.solve.specs.Solve.{solve_of}
use Rattle.solve.proofs.Bench.{starred_examples}
use Rattle.book.specs.Bytes.{bytes, unsigned}
use Rattle.book.specs.Examples.{example, PaperBooks}
use Rattle.book.specs.Layout.{coefficients}
use Rattle.book.specs.Writer.{entries, bodies, book_of}

sign : solve_of example ≡ none_by_sign
unfolding StarredExamples
sign = ap (λ (answers : List Verdict). get_or answers 3 none_by_sign) starred_examples

pub paper_books : PaperBooks
unfolding PaperBooks book_of entries bodies bytes unsigned coefficients
paper_books = (refl, rw sign)
