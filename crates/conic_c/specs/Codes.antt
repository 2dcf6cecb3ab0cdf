-- The code that an exported function returns: an answer is 0 or more, a refusal minus the paper's number. Assumes nothing.
use Rattle.std.specs.Prelude.{ℕ, ℤ, pos, neg_ℤ}
use Rattle.point.specs.Paper.{Verdict, point, none_by_sign, none_by_prime, refusal}
use Rattle.direction.specs.Direction.{Bearing, direction, no_direction}
use Rattle.row.specs.Row.{RowAnswer, row_length, no_row}
use Rattle.book.specs.Writer.{WriterAnswer, book_length, no_book}
use Rattle.book.specs.Reader.{ReaderAnswer, with_point, with_none_by_sign, with_none_by_prime, degenerate, no_entry}

-- what the library answers to each of the six functions
pub data Given : Type 0 where
  to_solve : Verdict → Given
  to_point : Verdict → Given
  to_direction : Bearing → Given
  to_row : RowAnswer → Given
  to_book_write : WriterAnswer → Given
  to_book_read : ReaderAnswer → Given

abbrev pub refused : ℕ → ℤ
refused n = neg_ℤ (pos n)

abbrev pub code : Given → ℤ
code (to_solve (point p)) = pos 1
code (to_solve none_by_sign) = pos 2
code (to_solve (none_by_prime l)) = pos 3
code (to_solve (refusal n)) = refused n
-- a direction leads to a point or is refused: the two codes of a none do not arise
code (to_point (point p)) = pos 0
code (to_point none_by_sign) = pos 2
code (to_point (none_by_prime l)) = pos 3
code (to_point (refusal n)) = refused n
code (to_direction (direction t)) = pos 0
code (to_direction (no_direction n)) = refused n
code (to_row (row_length n)) = pos n
code (to_row (no_row n)) = refused n
code (to_book_write (book_length n)) = pos n
code (to_book_write (no_book n)) = refused n
code (to_book_read (with_point h p)) = pos 1
code (to_book_read (with_none_by_sign h)) = pos 2
code (to_book_read (with_none_by_prime h l)) = pos 3
code (to_book_read (degenerate h)) = pos 4
code (to_book_read (no_entry n)) = refused n
