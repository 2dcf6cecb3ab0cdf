-- The test of a body says what it is named for: kind 1 a legal base on a conic in range and not degenerate, kinds 2 and 3 solve's own
-- verdict, kind 4 a degenerate conic in range, and no other kind is right. Assumes nothing.
use mathlib.Core.Bool.{true, false≢true, ◌&&◌, not, and-eq-true_iff}
use mathlib.Core.List.{List}
use mathlib.Core.Logic.{◌↔◌}
use mathlib.Core.Path.{◌≡◌, refl, ap, ap₂, ◌∙◌}
use Prim.Native.Nat.{ℕ, zero, suc, ◌+◌}
use lib.IntN.{pos}
use borrow.Author.Tests.{eqb-true, eq-eqb, not-true}
use Rattle.number.proofs.Least.{true_of_T, T-of-true, not_true_of_false}
use Rattle.point.specs.Legal.{is_base}
use Rattle.point.specs.Paper.{Verdict, point, none_by_sign, none_by_prime, refusal, is_zero}
use Rattle.point.specs.declared.Point.{Point}
use Rattle.point.proofs.Tests.{is_zero_iff, is_zero_not}
use Rattle.conic.specs.Form.{G, Δ}
use Rattle.conic.specs.Base.{in_range}
use Rattle.conic.specs.declared.conic.Conic.{Conic}
use Rattle.solve.specs.Demand2.{NonDegenerate}
use Rattle.solve.specs.Solve.{solve_of}
use Rattle.book.specs.Bytes.{number_at}
use Rattle.book.specs.Layout.{conic_at, point_at}
use Rattle.book.specs.Reader.{is_none_by_sign, is_none_by_prime, is_right_point, is_right}
use Rattle.book.specs.Theorems.{RightBody, right_point, right_sign, right_prime, right_degenerate}

by_sign : (v : Verdict) → is_none_by_sign v ≡ true → v ≡ none_by_sign
by_sign (point p) e = absurd (false≢true e)
by_sign none_by_sign e = refl
by_sign (none_by_prime l) e = absurd (false≢true e)
by_sign (refusal n) e = absurd (false≢true e)

by_prime : (l : ℕ) (v : Verdict) → is_none_by_prime l v ≡ true → v ≡ none_by_prime l
by_prime l (point p) e = absurd (false≢true e)
by_prime l none_by_sign e = absurd (false≢true e)
by_prime l (none_by_prime m) e = ap none_by_prime (eqb-true m l e)
by_prime l (refusal n) e = absurd (false≢true e)

-- in range, not degenerate, a legal base, on the conic
record Legal (h : Conic) (p : Point) : Type 0 where
  non_degenerate : NonDegenerate h
  base : is_base p ≡ true
  on : G h p ≡ pos 0

legal_point : (h : Conic) (p : Point) → is_right_point h p ≡ true ↔ Legal h p
unfolding is_right_point
legal_point h p = (
  λ e.
      let (to_base, on) = (and-eq-true_iff (in_range h && not (is_zero (Δ h)) && is_base p) (is_zero (G h p))).0 e in
      let (to_zero, base) = (and-eq-true_iff (in_range h && not (is_zero (Δ h))) (is_base p)).0 to_base in
      let (range, delta) = (and-eq-true_iff (in_range h) (not (is_zero (Δ h)))).0 to_zero in
      record {
        non_degenerate = record { in_range = T-of-true range; not_zero = λ degenerate. not_true_of_false (not-true _ delta) (is_zero_iff.1 degenerate) };
        base = base;
        on = is_zero_iff.0 on;
      },
  λ l.
      ap₂ ◌&&◌
      (ap₂ ◌&&◌ (ap₂ ◌&&◌ (true_of_T (in_range h) l.non_degenerate.in_range) (ap not (is_zero_not l.non_degenerate.not_zero))) l.base)
      (is_zero_iff.1 l.on),
)

module _ (book : List ℕ) (at : ℕ) where
  pub right_of_test : (kind : ℕ) → is_right kind book at ≡ true → RightBody book at kind
  unfolding is_right
  right_of_test zero e = absurd (false≢true e)
  right_of_test (suc zero) e =
      let legal = (legal_point (conic_at book at) (point_at book (at + 6))).0 e in
      right_point legal.non_degenerate (T-of-true legal.base) legal.on
  right_of_test (suc (suc zero)) e = right_sign (by_sign (solve_of (conic_at book at)) e)
  right_of_test (suc (suc (suc zero))) e = right_prime (by_prime (number_at 4 book (at + 6)) (solve_of (conic_at book at)) e)
  right_of_test (suc (suc (suc (suc zero)))) e =
      let (range, delta) = (and-eq-true_iff (in_range (conic_at book at)) (is_zero (Δ (conic_at book at)))).0 e in
      right_degenerate (T-of-true range) (is_zero_iff.0 delta)
  right_of_test (suc (suc (suc (suc (suc n))))) e = absurd (false≢true e)

  pub test_of_right : {kind : ℕ} → RightBody book at kind → is_right kind book at ≡ true
  unfolding is_right
  test_of_right (right_point legal base on) =
      (legal_point (conic_at book at) (point_at book (at + 6))).1 (record { non_degenerate = legal; base = true_of_T _ base; on = on })
  test_of_right (right_sign e) = ap is_none_by_sign e
  test_of_right (right_prime e) = ap (is_none_by_prime (number_at 4 book (at + 6))) e ∙ eq-eqb (number_at 4 book (at + 6)) (number_at 4 book (at + 6)) refl
  test_of_right (right_degenerate range delta) = ap₂ ◌&&◌ (true_of_T (in_range (conic_at book at)) range) (is_zero_iff.1 delta)
