-- The promise of a text row determines its answer, which can be told from what it stands for in the paper, and the
-- buffer. Assumes nothing.
use mathlib.Core.List.{List}
use mathlib.Core.Path.{◌≡◌, refl, sym, ap, ◌∙◌}
use Prim.Native.Nat.{ℕ}
use Rattle.point.proofs.Promise.{told_apart, numbered, numbered_number}
use Rattle.std.specs.Prelude.{Ok, Err}
use Rattle.row.specs.Row.{RowAnswer, row_length, no_row, Written, written, RowPromise}

abbrev to_written : RowAnswer → Written
to_written (row_length n) = Ok n
to_written (no_row n) = Err (numbered n)

written_back : (r : Written) → to_written (written r) ≡ r
written_back (Ok n) = refl
written_back (Err r) = ap Err (numbered_number r)

pub same_written : (r r' : Written) → written r ≡ written r' → r ≡ r'
same_written = told_apart written to_written written_back

pub row_determined :
    {text before after after' : List ℕ} {r r' : Written} → RowPromise text before r after → RowPromise text before r' after' →
    (r ≡ r') × (after ≡ after')
row_determined {r = r} {r' = r'} a b = (same_written r r' (a.answer ∙ sym b.answer), a.buffer ∙ sym b.buffer)
