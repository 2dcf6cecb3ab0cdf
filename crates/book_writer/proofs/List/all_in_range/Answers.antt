-- `book_writer::List::all_in_range` meets its contract: the runs are tested one after the other. Assumes nothing.
use mathlib.Core.List.{List}
use mathlib.Core.Path.{◌∙◌}
use Prim.Native.Nat.{ℕ}
use Rattle.std.proofs.Common.{rules}
use Rattle.std.proofs.lemmas.Iterator.{YieldsList-from_slice}
use Rattle.std.proofs.lemmas.Iterator.Search.{all_from_yields_List}
use Rattle.conic.specs.Base.{in_range}
use Rattle.book.specs.Layout.{conic_at}
use Rattle.book.proofs.Listed.{range_listed}
use Rattle.book_writer.proofs.List.all_in_range.Goals as goal

pub returns : goal.returns
returns c =
    let runs = c.args.self.now.conics.now in
    all_from_yields_List (λ (six : List ℕ). in_range (conic_at six 0)) _ _ c.all.result c.all.ensures.ran
    (YieldsList-from_slice runs c.iter.ensures.rest) (λ six t f called. search rules)
    ∙ range_listed runs
