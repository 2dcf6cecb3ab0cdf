-- The row entry: refusal 11 before anything else; with a buffer of 40 bytes or more always one row, in which 10, 1 and 2 are
-- content; every byte after the row stays. Assumes nothing.
use Rattle.std.specs.Prelude.{Bool, cond, List, ◌++◌, ◌≡◌, ℕ, ltb, length, drop, Option, Some, None, Result, Ok, Err}
use Rattle.point.specs.Paper.{Verdict, refusal, number}
use Rattle.point.specs.declared.paper.Refusal.{Refusal}
use Rattle.conic.specs.declared.conic.Conic.{Conic}
use Rattle.solve.specs.Solve.{solve_of}
use Rattle.row_reader.specs.Reading.{read_row}
use Rattle.row.specs.Writing.{row_text}

abbrev pub buffer_limit : ℕ
buffer_limit = 40

unfoldable pub verdict_on : Option Conic → Verdict
verdict_on None = refusal 10
verdict_on (Some h) = solve_of h

-- the row that answers a text
unfoldable pub row_of : List ℕ → List ℕ
row_of text = row_text (verdict_on (read_row text))

pub data RowAnswer : Type 0 where
  row_length : ℕ → RowAnswer
  no_row : ℕ → RowAnswer

-- the length of the row that was written, with its line feed, or a refusal
abbrev pub Written : Type 0
Written = Result ℕ Refusal

abbrev pub written : Written → RowAnswer
written (Ok n) = row_length n
written (Err r) = no_row (number r)

unfoldable pub too_short : List ℕ → Bool
too_short buffer = ltb (length buffer) buffer_limit

-- the promise of a text row: its answer, and the buffer as it is left
pub record RowPromise (text before : List ℕ) (r : Written) (after : List ℕ) : Type 0 where
  pub answer : written r ≡ cond (too_short before) (no_row 11) (row_length (length (row_of text)))
  pub buffer : after ≡ cond (too_short before) before (row_of text ++ drop (length (row_of text)) before)
