-- The book of a list of conics, and the writer's entry: refusals 15, 1, 14, each leaving every byte. Assumes nothing.
use Rattle.std.specs.Prelude.{Bool, true, ◌&&◌, ◌||◌, not, cond, List, [], ◌∷◌, ◌++◌, ◌≡◌, ℕ, zero, suc, ◌+◌, ◌*◌, ◌/◌, ◌%◌, eqb, ltb, length, drop}
use Rattle.std.specs.Prelude.{Result, Ok, Err}
use Rattle.point.specs.Paper.{number}
use Rattle.point.specs.declared.paper.Refusal.{Refusal}
use Rattle.conic.specs.Base.{in_range}
use Rattle.conic.specs.declared.conic.Conic.{Conic}
use Rattle.solve.specs.Solve.{solve_of}
use Rattle.book.specs.Bytes.{bytes}
use Rattle.book.specs.Layout.{count_limit, body_length, kind_of, coefficients, added, conic_at}

-- the entries of conics whose bodies start at an offset
unfoldable pub entries : ℕ → List Conic → List ℕ
entries offset [] = []
entries offset (h ∷ hs) =
    kind_of (solve_of h) ∷ bytes 2 offset ++ entries (offset + body_length (kind_of (solve_of h))) hs

unfoldable pub bodies : List Conic → List ℕ
bodies [] = []
bodies (h ∷ hs) = coefficients h ++ added (solve_of h) ++ bodies hs

unfoldable pub book_of : List Conic → List ℕ
book_of hs = bytes 2 (length hs) ++ entries (2 + 3 * length hs) hs ++ bodies hs

-- n conics of six signed bytes each, from a place on
unfoldable pub conics_from : ℕ → List ℕ → ℕ → List Conic
conics_from zero list at = []
conics_from (suc n) list at = conic_at list at ∷ conics_from n list (at + 6)

unfoldable pub conics_of : List ℕ → List Conic
conics_of list = conics_from (length list / 6) list 0

unfoldable pub all_in_range : List Conic → Bool
all_in_range [] = true
all_in_range (h ∷ hs) = in_range h && all_in_range hs

-- not a multiple of 6 bytes, or above 12,000
unfoldable pub wrong_list : List ℕ → Bool
wrong_list list = not (eqb (length list % 6) 0) || ltb (6 * count_limit) (length list)

pub data WriterAnswer : Type 0 where
  book_length : ℕ → WriterAnswer
  no_book : ℕ → WriterAnswer

abbrev pub written : Result ℕ Refusal → WriterAnswer
written (Ok n) = book_length n
written (Err r) = no_book (number r)

unfoldable pub writer_answer : List ℕ → List ℕ → WriterAnswer
writer_answer list before =
    cond (wrong_list list)
    (no_book 15)
    (cond (all_in_range (conics_of list))
    (cond (ltb (length before) (length (book_of (conics_of list))))
    (no_book 14)
    (book_length (length (book_of (conics_of list)))))
    (no_book 1))

-- the buffer as it is left: the book and every byte after it, or every byte as it was
unfoldable pub left : WriterAnswer → List ℕ → List ℕ → List ℕ
left (book_length n) book before = book ++ drop n before
left (no_book n) book before = before

-- the promise of the writer
pub record WriterPromise (list before : List ℕ) (r : Result ℕ Refusal) (after : List ℕ) : Type 0 where
  pub answer : written r ≡ writer_answer list before
  pub buffer : after ≡ left (writer_answer list before) (book_of (conics_of list)) before
