-- The reader's entry: it judges the whole book first, 12 for a broken layout, then 13 for a body that isn't right, then 16 for a
-- number that the book does not have. Assumes nothing.
use Rattle.std.specs.Prelude.{Bool, true, false, ◌&&◌, not, cond, List, [], ◌∷◌, ◌≡◌, ℕ, zero, suc, ◌+◌, ◌*◌, eqb, leb, ltb, length, get_or}
use Rattle.std.specs.Prelude.{Option, Some, None, Result, Ok, Err}
use Rattle.point.specs.Legal.{is_base}
use Rattle.point.specs.Paper.{Verdict, point, none_by_sign, none_by_prime, refusal, number, is_zero}
use Rattle.point.specs.declared.Point.{Point}
use Rattle.point.specs.declared.paper.Refusal.{Refusal}
use Rattle.conic.specs.Form.{G, Δ}
use Rattle.conic.specs.Base.{in_range}
use Rattle.conic.specs.declared.conic.Conic.{Conic}
use Rattle.legendre.specs.declared.outcome.Reason.{Reason}
use Rattle.solve.specs.Answer.{Answer}
use Rattle.solve.specs.Solve.{solve_of}
use Rattle.book.specs.Bytes.{number_at}
use Rattle.book.specs.Layout.{count_limit, body_length, count_of, kind_at, offset_at, conic_at, point_at}

-- where the bodies before entry i end
unfoldable pub bodies_end : List ℕ → ℕ → ℕ
bodies_end book zero = 2 + 3 * count_of book
bodies_end book (suc i) = bodies_end book i + body_length (kind_at book i)

-- each number below n passes a test
unfoldable pub every_below : (ℕ → Bool) → ℕ → Bool
every_below test zero = true
every_below test (suc n) = every_below test n && test n

-- the kind of entry i is 1 to 4, and its offset is where the bodies before it end
unfoldable pub entry_holds : List ℕ → ℕ → Bool
entry_holds book i = leb 1 (kind_at book i) && leb (kind_at book i) 4 && eqb (offset_at book i) (bodies_end book i)

unfoldable pub layout_holds : List ℕ → Bool
layout_holds book =
    leb 2 (length book) && leb (2 + 3 * count_of book) (length book) && leb (count_of book) count_limit &&
    every_below (entry_holds book) (count_of book) && eqb (bodies_end book (count_of book)) (length book)

abbrev pub is_none_by_sign : Verdict → Bool
is_none_by_sign (point p) = false
is_none_by_sign none_by_sign = true
is_none_by_sign (none_by_prime m) = false
is_none_by_sign (refusal n) = false

abbrev pub is_none_by_prime : ℕ → Verdict → Bool
is_none_by_prime l (point p) = false
is_none_by_prime l none_by_sign = false
is_none_by_prime l (none_by_prime m) = eqb m l
is_none_by_prime l (refusal n) = false

-- in range, not degenerate, and the point is a legal base on the conic, whoever wrote it
unfoldable pub is_right_point : Conic → Point → Bool
is_right_point h p = in_range h && not (is_zero (Δ h)) && is_base p && is_zero (G h p)

-- the body of a kind at a place is right
unfoldable pub is_right : ℕ → List ℕ → ℕ → Bool
is_right kind book at =
    get_or
    (false ∷ is_right_point (conic_at book at) (point_at book (at + 6)) ∷ is_none_by_sign (solve_of (conic_at book at)) ∷
    is_none_by_prime (number_at 4 book (at + 6)) (solve_of (conic_at book at)) ∷
    (in_range (conic_at book at) && is_zero (Δ (conic_at book at))) ∷ [])
    kind
    false

unfoldable pub body_holds : List ℕ → ℕ → Bool
body_holds book i = is_right (kind_at book i) book (bodies_end book i)

pub data ReaderAnswer : Type 0 where
  with_point : Conic → Point → ReaderAnswer
  with_none_by_sign : Conic → ReaderAnswer
  with_none_by_prime : Conic → ℕ → ReaderAnswer
  degenerate : Conic → ReaderAnswer
  no_entry : ℕ → ReaderAnswer

abbrev pub stored_reason : Conic → Reason → ReaderAnswer
stored_reason h Reason.Sign = with_none_by_sign h
stored_reason h (Reason.Prime l) = with_none_by_prime h l

-- an answer as a book has it; none where the conic is degenerate
abbrev pub Stored : Type 0
Stored = Option Answer

abbrev pub stored : Conic → Stored → ReaderAnswer
stored h (Some (Ok p)) = with_point h p
stored h (Some (Err r)) = stored_reason h r
stored h None = degenerate h

-- a conic with its stored answer, or a refusal
abbrev pub Entry : Type 0
Entry = Result (Conic × Stored) Refusal

abbrev pub entry : Entry → ReaderAnswer
entry (Ok e) = stored e.0 e.1
entry (Err r) = no_entry (number r)

-- what the body of a kind at a place says
unfoldable pub content_of : ℕ → List ℕ → ℕ → ReaderAnswer
content_of kind book at =
    get_or
    (no_entry 13 ∷ with_point (conic_at book at) (point_at book (at + 6)) ∷ with_none_by_sign (conic_at book at) ∷
    with_none_by_prime (conic_at book at) (number_at 4 book (at + 6)) ∷ degenerate (conic_at book at) ∷ [])
    kind
    (no_entry 13)

unfoldable pub reader_answer : List ℕ → ℕ → ReaderAnswer
reader_answer book i =
    cond (layout_holds book)
    (cond (every_below (body_holds book) (count_of book))
    (cond (ltb i (count_of book)) (content_of (kind_at book i) book (bodies_end book i)) (no_entry 16))
    (no_entry 13))
    (no_entry 12)

-- the promise of the reader
pub record ReaderPromise (book : List ℕ) (i : ℕ) (r : Entry) : Type 0 where
  pub answer : entry r ≡ reader_answer book i
