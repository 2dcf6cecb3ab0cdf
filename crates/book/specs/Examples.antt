-- The paper's two books, byte for byte. Assumes nothing.
use Rattle.std.specs.Prelude.{[], ◌∷◌, ◌≡◌, pos}
use Rattle.conic.specs.declared.conic.Conic.{Conic}
use Rattle.book.specs.Writer.{book_of}

-- 1 0 1 0 0 3
abbrev pub example : Conic
example = record { a = pos 1; b = pos 0; c = pos 1; d = pos 0; e = pos 0; f = pos 3 }

unfoldable pub PaperBooks : Type 0
PaperBooks = (book_of [] ≡ 0 ∷ 0 ∷ []) × (book_of (example ∷ []) ≡ 1 ∷ 0 ∷ 2 ∷ 5 ∷ 0 ∷ 1 ∷ 0 ∷ 1 ∷ 0 ∷ 0 ∷ 3 ∷ [])
