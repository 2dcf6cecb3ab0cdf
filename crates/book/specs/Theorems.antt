-- What a book means, as statements about the definitions: 12, 13 and 16 by the paper's causes; what is written is read back; a book
-- that is accepted holds only true verdicts; the book of a list determines the list. Assumes nothing.
use Rattle.std.specs.Prelude.{List, ◌↔◌, ◌≡◌, ℕ, ◌+◌, ◌*◌, ◌<◌, ◌≤◌, T, pos, length, get_or}
use Rattle.point.specs.Legal.{is_base}
use Rattle.point.specs.Paper.{Verdict, point, none_by_sign, none_by_prime, refusal}
use Rattle.point.specs.declared.Point.{Point}
use Rattle.conic.specs.Form.{G, Δ}
use Rattle.conic.specs.Base.{in_range}
use Rattle.conic.specs.declared.conic.Conic.{Conic}
use Rattle.solve.specs.Demand2.{NonDegenerate, HasPoint, RightPoint, OneSignEverywhere}
use Rattle.solve.specs.Solve.{solve_of}
use Rattle.book.specs.Bytes.{number_at}
use Rattle.book.specs.Layout.{count_limit, count_of, kind_at, offset_at, conic_at, point_at}
use Rattle.book.specs.Reader.{ReaderAnswer, with_point, with_none_by_sign, with_none_by_prime, degenerate, no_entry, reader_answer, bodies_end}
use Rattle.book.specs.Writer.{book_of, all_in_range}

-- the paper's causes of 12
pub data BrokenLayout (book : List ℕ) : Type 0 where
  no_count : length book < 2 → BrokenLayout book
  too_short : length book < 2 + 3 * count_of book → BrokenLayout book
  too_many : count_limit < count_of book → BrokenLayout book
  wrong_kind : (i : ℕ) → i < count_of book → ¬ ((1 ≤ kind_at book i) × (kind_at book i ≤ 4)) → BrokenLayout book
  wrong_offset : (i : ℕ) → i < count_of book → ¬ (offset_at book i ≡ bodies_end book i) → BrokenLayout book
  wrong_end : ¬ (bodies_end book (count_of book) ≡ length book) → BrokenLayout book

-- a body that is right, by its kind
pub data RightBody (book : List ℕ) (at : ℕ) : ℕ → Type 0 where
  right_point : NonDegenerate (conic_at book at) → T (is_base (point_at book (at + 6))) →
      G (conic_at book at) (point_at book (at + 6)) ≡ pos 0 → RightBody book at 1
  right_sign : solve_of (conic_at book at) ≡ none_by_sign → RightBody book at 2
  right_prime : solve_of (conic_at book at) ≡ none_by_prime (number_at 4 book (at + 6)) → RightBody book at 3
  right_degenerate : T (in_range (conic_at book at)) → Δ (conic_at book at) ≡ pos 0 → RightBody book at 4

abbrev pub BodyHolds : List ℕ → ℕ → Type 0
BodyHolds book i = RightBody book (bodies_end book i) (kind_at book i)

-- 12 exactly for a broken layout
unfoldable pub TwelveExactly : Type 0
TwelveExactly = (book : List ℕ) (i : ℕ) → reader_answer book i ≡ no_entry 12 ↔ BrokenLayout book

-- 13 exactly if the layout holds and some body isn't right
unfoldable pub ThirteenExactly : Type 0
ThirteenExactly =
    (book : List ℕ) (i : ℕ) →
    reader_answer book i ≡ no_entry 13 ↔
    ((¬ BrokenLayout book) × ((j : ℕ) × (j < count_of book) × (¬ BodyHolds book j)))

-- 16 exactly if the book is right and has no conic of that number
unfoldable pub SixteenExactly : Type 0
SixteenExactly =
    (book : List ℕ) (i : ℕ) →
    reader_answer book i ≡ no_entry 16 ↔
    ((¬ BrokenLayout book) × ((j : ℕ) → j < count_of book → BodyHolds book j) × (count_of book ≤ i))

-- a conic with solve's answer; degenerate where solve refuses
unfoldable pub with_verdict : Conic → Verdict → ReaderAnswer
with_verdict h (point p) = with_point h p
with_verdict h none_by_sign = with_none_by_sign h
with_verdict h (none_by_prime l) = with_none_by_prime h l
with_verdict h (refusal n) = degenerate h

-- what the writer writes, the reader accepts: it gives back each conic with solve's answer, and 16 past the last
unfoldable pub WrittenIsRead : Type 0
WrittenIsRead =
    (hs : List Conic) → T (all_in_range hs) → length hs ≤ count_limit →
    ((i : ℕ) (h : Conic) → i < length hs → reader_answer (book_of hs) i ≡ with_verdict (get_or hs i h) (solve_of (get_or hs i h))) ×
    ((i : ℕ) → length hs ≤ i → reader_answer (book_of hs) i ≡ no_entry 16)

-- a point that is read lies on its conic; a none that is read is true of all rationals
pub record TrueOf (h : Conic) (r : ReaderAnswer) : Type 0 where
  pub point_on : (p : Point) → r ≡ with_point h p → NonDegenerate h × RightPoint h p
  pub none_by_sign_true : r ≡ with_none_by_sign h → NonDegenerate h × OneSignEverywhere h × (¬ HasPoint h)
  pub none_by_prime_true : (l : ℕ) → r ≡ with_none_by_prime h l → NonDegenerate h × (solve_of h ≡ none_by_prime l) × (¬ HasPoint h)
  pub degenerate_true : r ≡ degenerate h → T (in_range h) × (Δ h ≡ pos 0)

unfoldable pub AcceptedIsTrue : Type 0
AcceptedIsTrue = (book : List ℕ) (i : ℕ) (h : Conic) → TrueOf h (reader_answer book i)

-- the book of a list determines the list
unfoldable pub BookDeterminesList : Type 0
BookDeterminesList =
    (hs hs' : List Conic) → T (all_in_range hs) → T (all_in_range hs') → length hs ≤ count_limit → length hs' ≤ count_limit →
    book_of hs ≡ book_of hs' → hs ≡ hs'
