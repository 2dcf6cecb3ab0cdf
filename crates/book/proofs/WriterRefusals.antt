-- The writer refuses exactly for the paper's causes: each of its tests says what it is named for, and the answer takes
-- one of four ways. Assumes nothing.
use mathlib.Core.Bool.{true, false, true≢false, and-eq-true_iff}
use mathlib.Core.List.{List}
use mathlib.Core.Path.{◌≡◌, subst}
use Prim.Native.Nat.{ℕ, zero, suc, ◌+◌, ◌*◌, ◌/◌, ◌%◌, ◌<◌}
use native.Mathlib.Omega.{arith}
use lib.Dec.{eqb, ltb}
use lib.IntN.{nat_abs}
use lib.ListN.{length}
use borrow.Author.Tests.{eqb-true, eqb-false, ltb-true, ltb-false, lt-ltb, le-leb}
use Rattle.number.proofs.Least.{T-of-true, false_of_not_true, not_true_of_false}
use Rattle.point.specs.Paper.{coefficient_limit, within}
use Rattle.point.proofs.Cases.{by_test}
use Rattle.conic.specs.Base.{in_range}
use Rattle.conic.specs.Sizes.{InLimit}
use Rattle.conic.specs.declared.conic.Conic.{Conic}
use Rattle.conic.proofs.Sizes.{in_limit}
use Rattle.book.specs.Layout.{count_limit, conic_at}
use Rattle.book.specs.Refusals.{WriterCause, not_sixes, too_long, out_of_range, no_room, WriterRefusesExactly}
use Rattle.book.specs.Steps.{RightList}
use Rattle.book.specs.Writer.{no_book, book_of, conics_from, conics_of, all_in_range, writer_answer}
use Rattle.book.proofs.Writing.{not_sixes as wrong_by_sixes, too_long as wrong_by_length, is_fifteen, is_one, is_fourteen, is_length}

-- ---- conics in range

limit_in_range : {h : Conic} → InLimit h → in_range h ≡ true
unfolding in_range within
limit_in_range {h} l =
    rw (
      le-leb (nat_abs h.a) coefficient_limit l.a_within,
      le-leb (nat_abs h.b) coefficient_limit l.b_within,
      le-leb (nat_abs h.c) coefficient_limit l.c_within,
      le-leb (nat_abs h.d) coefficient_limit l.d_within,
      le-leb (nat_abs h.e) coefficient_limit l.e_within,
      le-leb (nat_abs h.f) coefficient_limit l.f_within,
    )

module _ (list : List ℕ) where
  moved : {k m : ℕ} → k ≡ m → InLimit (conic_at list k) → InLimit (conic_at list m)
  moved e = subst (λ (k : ℕ). InLimit (conic_at list k)) e

  each_from :
      (n at : ℕ) → all_in_range (conics_from n list at) ≡ true → (j : ℕ) → j < n → InLimit (conic_at list (at + 6 * j))
  unfolding all_in_range conics_from
  each_from zero at e j below = absurd (omega arith)
  each_from (suc n) at e zero below =
      moved (omega arith) (in_limit _ (T-of-true ((and-eq-true_iff (in_range (conic_at list at)) _).0 e).0))
  each_from (suc n) at e (suc j) below =
      let rest = ((and-eq-true_iff (in_range (conic_at list at)) _).0 e).1 in
      moved {k = at + 6 + 6 * j} (omega arith) (each_from n (at + 6) rest j (omega arith))

  some_from :
      (n at : ℕ) → all_in_range (conics_from n list at) ≡ false →
      (j : ℕ) × (j < n) × (¬ InLimit (conic_at list (at + 6 * j)))
  unfolding all_in_range conics_from
  some_from zero at e = absurd (true≢false e)
  some_from (suc n) at e =
      by_test (in_range (conic_at list at))
      (λ here.
      let (j, below, out) = some_from n (at + 6) (rw here at e) in
      (suc j, omega arith, λ l. out (moved (omega arith) l)))
      (λ out. (0, omega arith, λ l. not_true_of_false out (limit_in_range (moved (omega arith) l))))

  each_in_limit :
      all_in_range (conics_of list) ≡ true → (j : ℕ) → j < length list / 6 → InLimit (conic_at list (6 * j))
  unfolding conics_of
  each_in_limit e j below = moved (omega arith) (each_from (length list / 6) 0 e j below)

  some_out_of_limit :
      all_in_range (conics_of list) ≡ false → (j : ℕ) × (j < length list / 6) × (¬ InLimit (conic_at list (6 * j)))
  unfolding conics_of
  some_out_of_limit e =
      let (j, below, out) = some_from (length list / 6) 0 e in (j, below, λ l. out (moved (omega arith) l))

  all_of_each :
      ((j : ℕ) → j < length list / 6 → InLimit (conic_at list (6 * j))) → all_in_range (conics_of list) ≡ true
  all_of_each ranged =
      by_test (all_in_range (conics_of list))
      (λ e. e)
      (λ some. let (j, below, out) = some_out_of_limit some in absurd (out (ranged j below)))

-- ---- the statement

module _ (list buffer : List ℕ) where
  gives : {n : ℕ} → WriterCause list buffer n → writer_answer list buffer ≡ no_book n
  gives (not_sixes wrong) = is_fifteen list buffer (wrong_by_sixes list wrong)
  gives (too_long wrong) = is_fifteen list buffer (wrong_by_length list wrong)
  gives (out_of_range right j below out) =
      is_one list buffer right (false_of_not_true λ e. out (each_in_limit list e j below))
  gives (no_room right ranged short) =
      is_fourteen list buffer right (all_of_each list ranged)
      (lt-ltb (length buffer) (length (book_of (conics_of list))) short)

  -- a cause of a number is the cause of the number given
  caused : {m n : ℕ} → WriterCause list buffer m → writer_answer list buffer ≡ no_book n → WriterCause list buffer n
  caused {m} {n} c e =
      let own : writer_answer list buffer ≡ no_book m = gives c in
      let same : m ≡ n = cc in
      subst (WriterCause list buffer) same c

  cause_in_list : {n : ℕ} → RightList list → writer_answer list buffer ≡ no_book n → WriterCause list buffer n
  cause_in_list right e =
      by_test (all_in_range (conics_of list))
      (λ ranged. by_test (ltb (length buffer) (length (book_of (conics_of list))))
      (λ short.
      let below = ltb-true (length buffer) (length (book_of (conics_of list))) short in
      caused (no_room right (each_in_limit list ranged) below) e)
      (λ fits.
      let own = is_length list buffer right ranged fits in
      let clash : ◌≡◌ {A = ℕ} 0 1 = cc in absurd (omega arith)))
      (λ some. let (j, below, out) = some_out_of_limit list some in caused (out_of_range right j below out) e)

  cause : {n : ℕ} → writer_answer list buffer ≡ no_book n → WriterCause list buffer n
  cause e =
      by_test (eqb (length list % 6) 0)
      (λ sixes. by_test (ltb (6 * count_limit) (length list))
      (λ long. caused (too_long (ltb-true (6 * count_limit) (length list) long)) e)
      (λ rest.
      let at_most = ltb-false (6 * count_limit) (length list) rest in
      cause_in_list (record { sixes = eqb-true (length list % 6) 0 sixes; at_most = at_most }) e))
      (λ other. caused (not_sixes (eqb-false (length list % 6) 0 other)) e)

pub writer_refuses_exactly : WriterRefusesExactly
unfolding WriterRefusesExactly
writer_refuses_exactly list buffer n = (cause list buffer, gives list buffer)
