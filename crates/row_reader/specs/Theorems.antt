-- What holds of the reading of a text row, as a statement: a text above 47 bytes is no row. Assumes nothing.
use Rattle.std.specs.Prelude.{List, ◌≡◌, ℕ, ◌<◌, length, None}
use Rattle.row_reader.specs.Reading.{read_row}

-- six numbers of seven bytes, and five spaces
abbrev pub longest_text : ℕ
longest_text = 47

unfoldable pub LongTextIsNoRow : Type 0
LongTextIsNoRow = (text : List ℕ) → longest_text < length text → read_row text ≡ None
