-- The refusals of the writer, 15, 1, 14, and of the reader, 12, 13, 16: each number is given exactly for its cause,
-- and no other number is given. Assumes nothing.
use Rattle.std.specs.Prelude.{List, ◌↔◌, ◌≡◌, ℕ, ◌*◌, ◌/◌, ◌%◌, ◌<◌, ◌≤◌, length}
use Rattle.conic.specs.Sizes.{InLimit}
use Rattle.book.specs.Layout.{count_limit, count_of, conic_at}
use Rattle.book.specs.Reader.{no_entry, reader_answer}
use Rattle.book.specs.Steps.{RightList}
use Rattle.book.specs.Theorems.{BrokenLayout, BodyHolds}
use Rattle.book.specs.Writer.{no_book, book_of, conics_of, writer_answer}

-- why the writer gives a number for a list and a buffer; conic j of a list is the six bytes from 6j on
pub data WriterCause (list buffer : List ℕ) : ℕ → Type 0 where
  not_sixes : ¬ (length list % 6 ≡ 0) → WriterCause list buffer 15
  too_long : 6 * count_limit < length list → WriterCause list buffer 15
  out_of_range : RightList list → (j : ℕ) → j < length list / 6 → ¬ InLimit (conic_at list (6 * j)) →
      WriterCause list buffer 1
  no_room : RightList list → ((j : ℕ) → j < length list / 6 → InLimit (conic_at list (6 * j))) →
      length buffer < length (book_of (conics_of list)) → WriterCause list buffer 14

unfoldable pub WriterRefusesExactly : Type 0
WriterRefusesExactly =
    (list buffer : List ℕ) (n : ℕ) → writer_answer list buffer ≡ no_book n ↔ WriterCause list buffer n

-- why the reader gives a number for a book and a conic's number
pub data ReaderCause (book : List ℕ) (i : ℕ) : ℕ → Type 0 where
  broken_layout : BrokenLayout book → ReaderCause book i 12
  wrong_body : ¬ BrokenLayout book → (j : ℕ) → j < count_of book → ¬ BodyHolds book j → ReaderCause book i 13
  no_such_conic : ¬ BrokenLayout book → ((j : ℕ) → j < count_of book → BodyHolds book j) → count_of book ≤ i →
      ReaderCause book i 16

unfoldable pub ReaderRefusesExactly : Type 0
ReaderRefusesExactly = (book : List ℕ) (i n : ℕ) → reader_answer book i ≡ no_entry n ↔ ReaderCause book i n
