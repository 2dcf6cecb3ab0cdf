-- What the writer writes, the reader accepts: it gives back each conic with solve's answer, since a body is read back by its conic's
-- verdict and is right by demand 2, and 16 past the last. Assumes nothing.
use mathlib.Core.Bool.{true, and-eq-true_iff}
use mathlib.Core.List.{List, [], ◌∷◌, ◌++◌, append_assoc}
use mathlib.Core.Path.{◌≡◌, refl, ap, ap₂, ◌∙◌}
use Prim.Native.Nat.{ℕ, zero, suc, ◌≤◌, ◌<◌}
use native.Mathlib.Nat.{lt_of_lt_of_le}
use native.Mathlib.Omega.{arith}
use lib.Dec.{T, lit≤}
use lib.IntN.{pos}
use lib.ListN.{length, get_or, drop}
use Rattle.number.proofs.Least.{true_of_T, T-of-true}
use Rattle.point.specs.Paper.{Verdict, point, none_by_sign, none_by_prime, refusal}
use Rattle.conic.specs.Base.{in_range}
use Rattle.conic.specs.declared.conic.Conic.{Conic}
use Rattle.conic.proofs.Sizes.{in_limit}
use Rattle.solve.specs.Demand2.{PointIsRight}
use Rattle.solve.specs.Solve.{solve_of}
use Rattle.solve.proofs.Answers.{is_refusal, answered, refused, point_fits, prime_below}
use Rattle.solve.proofs.Demand2.{point_is_right}
use Rattle.book.specs.Layout.{count_limit, kind_of, coefficients, added, count_of, conic_at}
use Rattle.book.specs.Reader.{with_point, with_none_by_sign, with_none_by_prime, degenerate, bodies_end, every_below, layout_holds, body_holds, content_of}
use Rattle.book.specs.Theorems.{RightBody, right_point, right_sign, right_prime, right_degenerate, with_verdict, WrittenIsRead}
use Rattle.book.specs.Writer.{book_of, all_in_range}
use Rattle.book.proofs.ContentsBack.{count_back, kind_back, end_back, layout_back}
use Rattle.book.proofs.Contents.{layout_right}
use Rattle.book.proofs.Every.{every_holds}
use Rattle.book.proofs.LegalPoints.{right_is_legal}
use Rattle.book.proofs.Parts.{start_of, body_at}
use Rattle.book.proofs.ReadBack.{conic_read, point_read, prime_read}
use Rattle.book.proofs.Reading.{is_sixteen, is_content}
use Rattle.book.proofs.RightBodies.{test_of_right}

-- ---- a body, by its conic's verdict

record Stored (book : List ℕ) (at : ℕ) (h : Conic) (v : Verdict) : Type 0 where
  right : RightBody book at (kind_of v)
  said : content_of (kind_of v) book at ≡ with_verdict h v

own_conic :
    (book : List ℕ) (at : ℕ) (h : Conic) (v : Verdict) (rest : List ℕ) → in_range h ≡ true →
    drop at book ≡ coefficients h ++ added v ++ rest → conic_at book at ≡ h
own_conic book at h v rest range body =
    conic_read book at h (added v ++ rest) (in_limit h (T-of-true range)) (body ∙ append_assoc (coefficients h) (added v) rest)

stored_body :
    (book : List ℕ) (at : ℕ) (h : Conic) (v : Verdict) (rest : List ℕ) → in_range h ≡ true → solve_of h ≡ v →
    drop at book ≡ coefficients h ++ added v ++ rest → Stored book at h v
unfolding content_of with_verdict PointIsRight
stored_body book at h (point p) rest range e body =
    let conic = own_conic book at h (point p) rest range body in
    let numbers = point_read book at h rest p (point_fits h p e) body in
    let ok = answered h (ap is_refusal e) in
    let right = point_is_right h p ok e in
    record {
      right = right_point (rw conic ok) (rw numbers (T-of-true (right_is_legal right))) (rw (conic, numbers) right.on);
      said = ap₂ with_point conic numbers;
    }
stored_body book at h none_by_sign rest range e body =
    let conic = own_conic book at h none_by_sign rest range body in
    record { right = right_sign (rw conic e); said = ap with_none_by_sign conic }
stored_body book at h (none_by_prime l) rest range e body =
    let conic = own_conic book at h (none_by_prime l) rest range body in
    let prime = prime_read book at h rest l (lt_of_lt_of_le (prime_below h l e) (lit≤ tt)) body in
    record { right = right_prime (rw (conic, prime) e); said = ap₂ with_none_by_prime conic prime }
stored_body book at h (refusal n) rest range e body =
    let conic = own_conic book at h (refusal n) rest range body in
    record { right = right_degenerate (rw conic (T-of-true range)) (rw conic (refused h range (ap is_refusal e))); said = ap degenerate conic }

-- ---- the statement

all_range : (hs : List Conic) → T (all_in_range hs) → (i : ℕ) (h : Conic) → i < length hs → in_range (get_or hs i h) ≡ true
unfolding all_in_range
all_range [] t i h below = absurd (omega arith)
all_range (g ∷ hs) t zero h below = ((and-eq-true_iff (in_range g) (all_in_range hs)).0 (true_of_T _ t)).0
all_range (g ∷ hs) t (suc i) h below =
    all_range hs (T-of-true ((and-eq-true_iff (in_range g) (all_in_range hs)).0 (true_of_T _ t)).1) i h (omega arith)

body_back :
    (hs : List Conic) → T (all_in_range hs) → length hs ≤ count_limit → (i : ℕ) (h : Conic) → i < length hs →
    Stored (book_of hs) (bodies_end (book_of hs) i) (get_or hs i h) (solve_of (get_or hs i h))
body_back hs range limit i h below =
    let (rest, body) = body_at hs i h below in
    rw (end_back hs limit h i (omega arith))
    (stored_body (book_of hs) (start_of hs i) (get_or hs i h) (solve_of (get_or hs i h)) rest (all_range hs range i h below) refl body)

-- any conic: what stands past the end of a list
abbrev pub blank : Conic
blank = record { a = pos 0; b = pos 0; c = pos 0; d = pos 0; e = pos 0; f = pos 0 }

module _ (hs : List Conic) (range : T (all_in_range hs)) (limit : length hs ≤ count_limit) where
  layout : layout_holds (book_of hs) ≡ true
  layout = (layout_right (book_of hs)).1 (layout_back hs limit blank)

  bodies : every_below (body_holds (book_of hs)) (count_of (book_of hs)) ≡ true
  unfolding body_holds
  bodies =
      let count = count_back hs limit in
      every_holds (body_holds (book_of hs)) (count_of (book_of hs))
      (λ j inside.
      let own : j < length hs = omega arith in
      rw (kind_back hs limit blank j own)
      (test_of_right (book_of hs) (bodies_end (book_of hs) j) (body_back hs range limit j blank own).right))

pub written_is_read : WrittenIsRead
unfolding WrittenIsRead
written_is_read hs range limit =
    let book = book_of hs in
    let count = count_back hs limit in (
      λ i h below.
          is_content book i (layout hs range limit) (bodies hs range limit) (omega arith)
          ∙ ap (λ (k : ℕ). content_of k book (bodies_end book i)) (kind_back hs limit h i below)
          ∙ (body_back hs range limit i h below).said,
      λ i past. is_sixteen book i (layout hs range limit) (bodies hs range limit) (omega arith),
    )
