-- What holds of text rows, as statements: a row's text tells its answer, and a row fits the smallest buffer. Assumes nothing.
use Rattle.std.specs.Prelude.{List, ◌≡◌, ℕ, ◌≤◌, length}
use Rattle.point.specs.Paper.{Verdict}
use Rattle.row.specs.Writing.{row_text}
use Rattle.row.specs.Row.{row_of, buffer_limit}

-- two answers with the same row text are equal
unfoldable pub RowTellsAnswer : Type 0
RowTellsAnswer = (v v' : Verdict) → row_text v ≡ row_text v' → v ≡ v'

-- a buffer that is long enough to be taken holds every row
unfoldable pub RowsFit : Type 0
RowsFit = (text : List ℕ) → length (row_of text) ≤ buffer_limit
