-- The writer's answer, test after test: 15 for a wrong list, 1 for a conic out of range, 14 where the book does not fit, and otherwise
-- its length. A refusal leaves the buffer. Assumes nothing.
use mathlib.Core.Bool.{true, false, not, or-true}
use mathlib.Core.List.{List}
use mathlib.Core.Path.{◌≡◌, sym, ap, ◌∙◌}
use Prim.Native.Nat.{ℕ, ◌*◌, ◌%◌, ◌<◌}
use lib.Dec.{ltb, eqb}
use lib.ListN.{length}
use borrow.Author.Tests.{lt-ltb, le-ltb, eq-eqb, ne_eqb}
use Rattle.std.specs.Prelude.{Result, Ok}
use Rattle.point.specs.declared.paper.Refusal.{Refusal}
use Rattle.book.specs.Layout.{count_limit}
use Rattle.book.specs.Steps.{BookPut, RightList}
use Rattle.book.specs.Writer.{book_of, conics_of, all_in_range, wrong_list}
use Rattle.book.specs.Writer.{WriterAnswer, no_book, book_length, written, writer_answer, left, WriterPromise}

module _ (list : List ℕ) where
  pub not_sixes : (length list % 6 ≡ 0 → ⊥) → wrong_list list ≡ true
  unfolding wrong_list
  not_sixes h = rw (ne_eqb (length list % 6) 0 h)

  pub too_long : 6 * count_limit < length list → wrong_list list ≡ true
  unfolding wrong_list
  too_long h = rw (lt-ltb (6 * count_limit) (length list) h, or-true (not (eqb (length list % 6) 0)))

  pub right_list : RightList list → wrong_list list ≡ false
  unfolding wrong_list
  right_list r = rw (eq-eqb (length list % 6) 0 r.sixes, le-ltb (6 * count_limit) (length list) r.at_most)

module _ (list before : List ℕ) where
  pub is_fifteen : wrong_list list ≡ true → writer_answer list before ≡ no_book 15
  unfolding writer_answer
  is_fifteen wrong = rw wrong

  module _ (right : RightList list) where
    pub is_one : all_in_range (conics_of list) ≡ false → writer_answer list before ≡ no_book 1
    unfolding writer_answer
    is_one range = rw (right_list list right, range)

    module _ (range : all_in_range (conics_of list) ≡ true) where
      pub is_fourteen : ltb (length before) (length (book_of (conics_of list))) ≡ true → writer_answer list before ≡ no_book 14
      unfolding writer_answer
      is_fourteen short = rw (right_list list right, range, short)

      pub is_length :
          ltb (length before) (length (book_of (conics_of list))) ≡ false →
          writer_answer list before ≡ book_length (length (book_of (conics_of list)))
      unfolding writer_answer
      is_length fits = rw (right_list list right, range, fits)

  -- a refusal, and a book
  pub refused :
      {r : Result ℕ Refusal} {n : ℕ} → written r ≡ no_book n → writer_answer list before ≡ no_book n →
      WriterPromise list before r before
  unfolding left
  refused own e = record { answer = own ∙ sym e; buffer = sym (ap (λ (w : WriterAnswer). left w (book_of (conics_of list)) before) e) }

  pub booked :
      {r : ℕ} {after : List ℕ} → writer_answer list before ≡ book_length (length (book_of (conics_of list))) →
      BookPut before (conics_of list) r after → WriterPromise list before (Ok r) after
  unfolding left
  booked e put =
      record {
        answer = ap book_length put.length_is ∙ sym e;
        buffer = put.book ∙ sym (ap (λ (w : WriterAnswer). left w (book_of (conics_of list)) before) e);
      }
