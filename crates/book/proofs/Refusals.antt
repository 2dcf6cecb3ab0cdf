-- 12 exactly for a broken layout, 13 exactly if the layout holds and some body isn't right, 16 exactly if the book is right and has no
-- conic of that number. The answer has four ways, of which only one ends in each number. Assumes nothing.
use mathlib.Core.Bool.{true, false}
use mathlib.Core.List.{List}
use mathlib.Core.Path.{◌≡◌, refl, sym, ap, ◌∙◌}
use Prim.Native.Nat.{ℕ, zero, suc, ◌+◌, ◌*◌, ◌≤◌, ◌<◌}
use native.Mathlib.Omega.{arith}
use lib.Dec.{leb, ltb}
use lib.ListN.{length}
use borrow.Author.Tests.{leb-true, leb-false, ltb-true, ltb-false}
use Rattle.number.proofs.Least.{false_of_not_true, not_true_of_false}
use Rattle.point.proofs.Cases.{by_test}
use Rattle.book.specs.Layout.{count_limit, count_of, kind_at, offset_at}
use Rattle.book.specs.Reader.{ReaderAnswer, with_point, with_none_by_sign, with_none_by_prime, degenerate, no_entry, bodies_end, every_below, entry_holds, layout_holds, body_holds, content_of, reader_answer}
use Rattle.book.specs.Steps.{LayoutRight}
use Rattle.book.specs.Theorems.{BrokenLayout, no_count, too_short, too_many, wrong_kind, wrong_offset, wrong_end, BodyHolds, TwelveExactly, ThirteenExactly, SixteenExactly}
use Rattle.book.proofs.Contents.{entry_right, layout_right}
use Rattle.book.proofs.Every.{every_fails, every_gives, every_holds, every_not}
use Rattle.book.proofs.Reading.{is_twelve, is_thirteen, is_sixteen, is_content}
use Rattle.book.proofs.RightBodies.{right_of_test, test_of_right}

-- ---- the ways of the answer

pub data Way (book : List ℕ) (i : ℕ) : Type 0 where
  twelve : layout_holds book ≡ false → reader_answer book i ≡ no_entry 12 → Way book i
  thirteen :
      layout_holds book ≡ true → every_below (body_holds book) (count_of book) ≡ false → reader_answer book i ≡ no_entry 13 → Way book i
  sixteen :
      layout_holds book ≡ true → every_below (body_holds book) (count_of book) ≡ true → count_of book ≤ i → reader_answer book i ≡ no_entry 16 →
      Way book i
  content :
      layout_holds book ≡ true → every_below (body_holds book) (count_of book) ≡ true → i < count_of book →
      reader_answer book i ≡ content_of (kind_at book i) book (bodies_end book i) → Way book i

pub way : (book : List ℕ) (i : ℕ) → Way book i
way book i =
    by_test (layout_holds book)
    (λ layout. by_test (every_below (body_holds book) (count_of book))
    (λ bodies. by_test (ltb i (count_of book))
    (λ test. let below = ltb-true i (count_of book) test in content layout bodies below (is_content book i layout bodies below))
    (λ test. let above = ltb-false i (count_of book) test in sixteen layout bodies above (is_sixteen book i layout bodies above)))
    (λ wrong. thirteen layout wrong (is_thirteen book i layout wrong)))
    (λ broken. twelve broken (is_twelve book i broken))

-- ---- answers are told apart by the refusal's number, 0 for none

abbrev refusal_of : ReaderAnswer → ℕ
refusal_of (with_point h p) = 0
refusal_of (with_none_by_sign h) = 0
refusal_of (with_none_by_prime h l) = 0
refusal_of (degenerate h) = 0
refusal_of (no_entry n) = n

told : {r a b : ReaderAnswer} → r ≡ a → r ≡ b → refusal_of a ≡ refusal_of b
told p q = ap refusal_of (sym p ∙ q)

no_refusal : (kind : ℕ) (book : List ℕ) (at : ℕ) → 1 ≤ kind → kind ≤ 4 → refusal_of (content_of kind book at) ≡ 0
unfolding content_of
no_refusal zero book at h k = absurd (omega arith)
no_refusal (suc zero) book at h k = refl
no_refusal (suc (suc zero)) book at h k = refl
no_refusal (suc (suc (suc zero))) book at h k = refl
no_refusal (suc (suc (suc (suc zero)))) book at h k = refl
no_refusal (suc (suc (suc (suc (suc n))))) book at h k = absurd (omega arith)

-- the content of an entry is no refusal
content_refusal : (book : List ℕ) (i : ℕ) → layout_holds book ≡ true → i < count_of book → refusal_of (content_of (kind_at book i) book (bodies_end book i)) ≡ 0
content_refusal book i layout below =
    let entry = ((layout_right book).0 layout).entries i below in
    no_refusal (kind_at book i) book (bodies_end book i) entry.kind_at_least entry.kind_at_most

-- ---- a broken layout

entry_broken : (book : List ℕ) (i : ℕ) → i < count_of book → entry_holds book i ≡ false → BrokenLayout book
entry_broken book i below fails =
    let k = kind_at book i in
    let offset_decides : 1 ≤ k → k ≤ 4 → ¬ (offset_at book i ≡ bodies_end book i) =
    λ least most offset.
    not_true_of_false fails
    ((entry_right book i).1 (record { kind_at_least = least; kind_at_most = most; offset = offset })) in
    by_test (leb 1 k)
    (λ least. by_test (leb k 4)
    (λ most. wrong_offset i below (offset_decides (leb-true 1 k least) (leb-true k 4 most)))
    (λ above. wrong_kind i below (λ between. let out = leb-false k 4 above in absurd (omega arith))))
    (λ zero_kind. wrong_kind i below (λ between. let out = leb-false 1 k zero_kind in absurd (omega arith)))

broken_of_test : (book : List ℕ) → layout_holds book ≡ false → BrokenLayout book
broken_of_test book e =
    let n = count_of book in
    by_test (leb 2 (length book))
    (λ count. by_test (leb (2 + 3 * n) (length book))
    (λ contents. by_test (leb n count_limit)
    (λ limit. by_test (every_below (entry_holds book) n)
    (λ entries. wrong_end (λ ends. not_true_of_false e
    ((layout_right book).1
    (record {
      has_count = leb-true 2 (length book) count;
      has_contents = leb-true (2 + 3 * n) (length book) contents;
      count_at_most = leb-true n count_limit limit;
      entries = λ i below. (entry_right book i).0 (every_gives (entry_holds book) n entries i below);
      ends = ends;
    }))))
    (λ fails. let (i, below, broken) = every_not (entry_holds book) n fails in entry_broken book i below broken))
    (λ above. too_many (leb-false n count_limit above)))
    (λ short. too_short (leb-false (2 + 3 * n) (length book) short)))
    (λ short. no_count (leb-false 2 (length book) short))

test_of_broken : {book : List ℕ} → BrokenLayout book → layout_holds book ≡ false
test_of_broken {book} b = false_of_not_true λ e. clash b ((layout_right book).0 e)
  where
    clash : BrokenLayout book → LayoutRight book → ⊥
    clash (no_count short) r = omega arith
    clash (too_short short) r = omega arith
    clash (too_many many) r = omega arith
    clash (wrong_kind i below wrong) r = wrong ((r.entries i below).kind_at_least, (r.entries i below).kind_at_most)
    clash (wrong_offset i below wrong) r = wrong (r.entries i below).offset
    clash (wrong_end wrong) r = wrong r.ends

-- ---- right bodies

pub bodies_right : (book : List ℕ) → every_below (body_holds book) (count_of book) ≡ true → (j : ℕ) → j < count_of book → BodyHolds book j
unfolding body_holds
bodies_right book e j below =
    right_of_test book (bodies_end book j) (kind_at book j) (every_gives (body_holds book) (count_of book) e j below)

-- ---- the three statements

pub twelve_exactly : TwelveExactly
unfolding TwelveExactly
twelve_exactly book i = (by (way book i), λ broken. is_twelve book i (test_of_broken broken))
  where
    by : Way book i → reader_answer book i ≡ no_entry 12 → BrokenLayout book
    by (twelve broken own) e = broken_of_test book broken
    by (thirteen layout wrong own) e = absurd (omega (arith, told own e))
    by (sixteen layout bodies above own) e = absurd (omega (arith, told own e))
    by (content layout bodies below own) e = absurd (omega (arith, told own e, content_refusal book i layout below))

not_broken : (book : List ℕ) → layout_holds book ≡ true → ¬ BrokenLayout book
not_broken book layout broken = not_true_of_false (test_of_broken broken) layout

layout_holds_lem : (book : List ℕ) → ¬ BrokenLayout book → layout_holds book ≡ true
layout_holds_lem book sound = by_test (layout_holds book) (λ e. e) (λ e. absurd (sound (broken_of_test book e)))

pub thirteen_exactly : ThirteenExactly
unfolding ThirteenExactly body_holds
thirteen_exactly book i = (
  by (way book i),
  λ (sound, found).
      let (j, below, wrong) = found in
      is_thirteen book i (layout_holds_lem book sound)
      (every_fails (body_holds book) (count_of book) below
      (false_of_not_true λ e. wrong (right_of_test book (bodies_end book j) (kind_at book j) e))),
)
  where
    by : Way book i → reader_answer book i ≡ no_entry 13 → (¬ BrokenLayout book) × ((j : ℕ) × (j < count_of book) × (¬ BodyHolds book j))
    by (twelve broken own) e = absurd (omega (arith, told own e))
    by (thirteen layout wrong own) e =
        let (j, below, fails) = every_not (body_holds book) (count_of book) wrong in
        (not_broken book layout, (j, below, λ right. not_true_of_false fails (test_of_right book (bodies_end book j) right)))
    by (sixteen layout bodies above own) e = absurd (omega (arith, told own e))
    by (content layout bodies below own) e = absurd (omega (arith, told own e, content_refusal book i layout below))

pub sixteen_exactly : SixteenExactly
unfolding SixteenExactly body_holds
sixteen_exactly book i = (
  by (way book i),
  λ (sound, right, above).
      is_sixteen book i (layout_holds_lem book sound)
      (every_holds (body_holds book) (count_of book) (λ j below. test_of_right book (bodies_end book j) (right j below))) above,
)
  where
    by :
        Way book i → reader_answer book i ≡ no_entry 16 →
        (¬ BrokenLayout book) × ((j : ℕ) → j < count_of book → BodyHolds book j) × (count_of book ≤ i)
    by (twelve broken own) e = absurd (omega (arith, told own e))
    by (thirteen layout wrong own) e = absurd (omega (arith, told own e))
    by (sixteen layout bodies above own) e = (not_broken book layout, bodies_right book bodies, above)
    by (content layout bodies below own) e = absurd (omega (arith, told own e, content_refusal book i layout below))
