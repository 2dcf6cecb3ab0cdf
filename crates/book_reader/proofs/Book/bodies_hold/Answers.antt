-- `book_reader::Book::bodies_hold` meets its contract: the bodies are tested one after the other. Assumes nothing.
use mathlib.Core.Path.{refl, ap, ◌∙◌}
use native.Mathlib.Nat.{sub-zero}
use Rattle.std.proofs.Common.{rules}
use Rattle.std.proofs.lemmas.Iterator.{YieldsList-from_range}
use Rattle.std.proofs.lemmas.Iterator.Search.{all_from_yields_List}
use Rattle.book.specs.Reader.{every_below, body_holds}
use Rattle.book.proofs.BodyKinds.{right_is}
use Rattle.book.proofs.Every.{every_all}
use Rattle.book_reader.proofs.Book.bodies_hold.Goals as goal

pub returns : goal.returns
returns c =
    let book = c.args.self.now.bytes.now in
    let count = c.count.result in
    all_from_yields_List (body_holds book) _ _ c.all.result c.all.ensures.ran
    (YieldsList-from_range 0 count count refl (sub-zero count)) (λ i t f called. search (rules, right_is))
    ∙ every_all (body_holds book) count
    ∙ ap (every_below (body_holds book)) c.count.ensures
