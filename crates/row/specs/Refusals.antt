-- The refusal of a text row: 11 where the buffer is shorter than 40 bytes. In any other a row is written, and it says
-- "R n" by the paper's causes: 10 where the text isn't six numbers, 1 and 2 for the conic that they make. Assumes
-- nothing.
use Rattle.std.specs.Prelude.{List, ◌↔◌, ◌≡◌, ℕ, ◌<◌, pos, length}
use Rattle.point.specs.Paper.{refusal}
use Rattle.conic.specs.Form.{Δ}
use Rattle.conic.specs.Sizes.{InLimit}
use Rattle.conic.specs.declared.conic.Conic.{Conic}
use Rattle.row_reader.specs.Grammar.{SixNumbers}
use Rattle.row.specs.Row.{row_of, buffer_limit, no_row, Written, written, RowPromise}
use Rattle.row.specs.Writing.{row_text}

-- why a number is given
pub data BufferCause (buffer : List ℕ) : ℕ → Type 0 where
  short_buffer : length buffer < buffer_limit → BufferCause buffer 11

-- a number is given exactly for its cause, and no other number is given
unfoldable pub RowRefusesExactly : Type 0
RowRefusesExactly =
    (text before : List ℕ) (r : Written) (after : List ℕ) (n : ℕ) → RowPromise text before r after →
    written r ≡ no_row n ↔ BufferCause before n

-- why a row says "R n"
pub data ContentCause (text : List ℕ) : ℕ → Type 0 where
  not_read : ((h : Conic) → ¬ SixNumbers text h) → ContentCause text 10
  out_of_range : (h : Conic) → SixNumbers text h → ¬ InLimit h → ContentCause text 1
  degenerate : (h : Conic) → SixNumbers text h → InLimit h → Δ h ≡ pos 0 → ContentCause text 2

-- a row says "R n" exactly for its cause
unfoldable pub RowSaysRefusalExactly : Type 0
RowSaysRefusalExactly = (text : List ℕ) (n : ℕ) → row_of text ≡ row_text (refusal n) ↔ ContentCause text n
