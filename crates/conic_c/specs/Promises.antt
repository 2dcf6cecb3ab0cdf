-- The promises of the six exported functions: for every input and whatever the lent places hold, the code r and every place as it is
-- left, which is the place's name with a prime mark. Assumes nothing.
use Rattle.std.specs.Prelude.{cond, List, ◌++◌, ◌≡◌, ℕ, ℤ, length, drop}
use Rattle.point.specs.declared.Point.{Point}
use Rattle.point.specs.declared.Direction.{Direction}
use Rattle.conic.specs.declared.conic.Conic.{Conic}
use Rattle.solve.specs.Solve.{solve_of}
use Rattle.direction.specs.Direction.{point_of, direction_of}
use Rattle.row.specs.Row.{row_of, too_short, row_length, no_row}
use Rattle.book.specs.Writer.{book_of, conics_of, writer_answer, left}
use Rattle.book.specs.Reader.{reader_answer}
use Rattle.conic_c.specs.Codes.{code, to_point, to_direction, to_row, to_book_write}
use Rattle.conic_c.specs.Places.{point_left, direction_left, HandedVerdict, HandedEntry}

pub record ConicSolve (h : Conic) (point : List ℤ) (prime : ℕ) (r : ℤ) (point' : List ℤ) (prime' : ℕ) : Type 0 where
  pub handed : HandedVerdict (solve_of h) point prime r point' prime'

pub record ConicPoint (h : Conic) (p : Point) (t : Direction) (point : List ℤ) (r : ℤ) (point' : List ℤ) : Type 0 where
  pub code_is : r ≡ code (to_point (point_of h p t))
  pub point_is : point' ≡ point_left (point_of h p t) point

pub record ConicDirection (h : Conic) (p q : Point) (direction : List ℤ) (r : ℤ) (direction' : List ℤ) : Type 0 where
  pub code_is : r ≡ code (to_direction (direction_of h p q))
  pub direction_is : direction' ≡ direction_left (direction_of h p q) direction

pub record ConicRow (text out : List ℕ) (r : ℤ) (out' : List ℕ) : Type 0 where
  pub code_is : r ≡ code (to_row (cond (too_short out) (no_row 11) (row_length (length (row_of text)))))
  pub out_is : out' ≡ cond (too_short out) out (row_of text ++ drop (length (row_of text)) out)

pub record ConicBookWrite (list book : List ℕ) (r : ℤ) (book' : List ℕ) : Type 0 where
  pub code_is : r ≡ code (to_book_write (writer_answer list book))
  pub book_is : book' ≡ left (writer_answer list book) (book_of (conics_of list)) book

pub record ConicBookRead (book : List ℕ) (number : ℕ) (conic point : List ℤ) (prime : ℕ) (r : ℤ) (conic' point' : List ℤ)
    (prime' : ℕ) : Type 0 where
  pub handed : HandedEntry (reader_answer book number) conic point prime r conic' point' prime'
