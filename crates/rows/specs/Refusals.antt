-- The refusal of finishing, as that of a text row: 11 where the buffer is shorter than 40 bytes. Feeding refuses
-- nothing: where room runs out it stops, and says how much it took. Assumes nothing.
use Rattle.std.specs.Prelude.{List, ◌↔◌, ◌≡◌, ℕ}
use Rattle.row.specs.Refusals.{BufferCause}
use Rattle.row.specs.Row.{no_row, written, Written}
use Rattle.rows.specs.Cutter.{FinishPromise}
use Rattle.rows.specs.declared.Cutter.{Cutter}

-- a number is given exactly for its cause, and no other number is given
unfoldable pub FinishRefusesExactly : Type 0
FinishRefusesExactly =
    (c : Cutter) (before : List ℕ) (r : Written) (left : List ℕ) (n : ℕ) → FinishPromise c before r left →
    written r ≡ no_row n ↔ BufferCause before n
