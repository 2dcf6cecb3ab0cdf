-- A length that the row writer or the book writer returns is at most that of the buffer it was lent: what was written
-- stands in it. Assumes nothing.
use Rattle.std.proofs.Common.{List, length, length-append, drop, ◌++◌, ◌≡◌, sym, ap, ◌∙◌, ℕ, ◌≤◌}
use Rattle.std.proofs.Common.{Bool, true, false, cond, arith}
use Rattle.std.specs.Prelude.{Ok}
use Rattle.row.specs.Row.{RowPromise, row_length, no_row, row_of, too_short}
use Rattle.book.specs.Writer.{book_length, writer_answer}

pub row_within : {text before after : List ℕ} {n : ℕ} → RowPromise text before (Ok n) after →
    length after ≡ length before → n ≤ length before
row_within {text} {before} {after} {n} h kept = go (too_short before) h.answer h.buffer
  where
    go : (t : Bool) → row_length n ≡ cond t (no_row 11) (row_length (length (row_of text))) →
        after ≡ cond t before (row_of text ++ drop (length (row_of text)) before) → n ≤ length before
    go true e b = let z : ◌≡◌ {A = ℕ} 0 1 = cc in omega arith
    go false e b =
        let m : n ≡ length (row_of text) = cc in
        omega (arith, m, sym kept ∙ ap length b ∙ length-append (row_of text) (drop (length (row_of text)) before))

pub book_within : (list before : List ℕ) (n : ℕ) → book_length n ≡ writer_answer list before → n ≤ length before
unfolding writer_answer
book_within list before n e = grind arith
