-- The answer to a whole input: its rows, cut at line feeds (a last row without one counts if not empty), each answered
-- by its row, one after another. Assumes nothing.
use Rattle.std.specs.Prelude.{List, [], ◌∷◌, ◌++◌, ℕ}
use Rattle.row_reader.specs.Reading.{parts_at}
use Rattle.row.specs.Row.{row_of}
use Rattle.row.specs.Writing.{line_feed}

-- the last part counts if not empty
unfoldable pub last_row : List ℕ → List (List ℕ)
last_row [] = []
last_row (b ∷ part) = (b ∷ part) ∷ []

unfoldable pub counted : List (List ℕ) → List (List ℕ)
counted [] = []
counted (part ∷ []) = last_row part
counted (part ∷ next ∷ parts) = part ∷ counted (next ∷ parts)

unfoldable pub rows_of : List ℕ → List (List ℕ)
rows_of input = counted (parts_at line_feed input)

unfoldable pub answers : List (List ℕ) → List ℕ
answers [] = []
answers (text ∷ texts) = row_of text ++ answers texts

unfoldable pub output_of : List ℕ → List ℕ
output_of input = answers (rows_of input)
