-- What solve's verdicts say of a conic: a point or a none is given only in range and where Δ is not 0, a refusal in range only where
-- Δ is 0; a refusal is 1 or 2, a point is within the limit, and a prime, which divides D or aΔ, has nine digits at most. From the
-- definition and demand 2. Assumes nothing.
use mathlib.Core.Bool.{Bool, true, false, cond}
use mathlib.Core.Logic.{◌≢◌, ⊎_elim}
use mathlib.Core.Path.{◌≡◌, refl, sym, ap, ◌∙◌, subst}
use Prim.Native.Nat.{ℕ, ◌^◌, ◌≤◌, ◌<◌}
use native.Mathlib.Nat.{le_trans, lt_of_le_of_lt}
use native.Mathlib.Omega.{arith}
use lib.Dec.{lit<, lit≤}
use lib.IntN.{ℤ, pos, neg_ℤ, nat_abs, ◌*ℤ◌}
use Rattle.whole.proofs.Size.{nat_abs_positive}
use Rattle.number.specs.Divides.{◌∣ℤ◌}
use Rattle.number.proofs.Divides.{∣ℤ_times_right, divisor_size_bound}
use Rattle.number.proofs.Least.{T-of-true, not_true_of_false}
use Rattle.number.proofs.Prime.{prime_divides_product}
use Rattle.std.specs.Prelude.{Result, Ok, Err}
use Rattle.legendre.specs.Outcome.{outcome_of}
use Rattle.legendre.specs.declared.outcome.Reason.{Reason}
use Rattle.legendre.specs.declared.outcome.Triple.{Triple}
use Rattle.point.specs.Paper.{Verdict, point, none_by_sign, none_by_prime, refusal, point_limit, point_in_limit, is_zero}
use Rattle.point.specs.Sizes.{PointWithin}
use Rattle.point.specs.declared.Point.{Point}
use Rattle.point.proofs.Cases.{by_test, cond_cases}
use Rattle.point.proofs.Limits.{within_point}
use Rattle.point.proofs.Tests.{is_base_iff, is_zero_iff, not_zero_of_false}
use Rattle.conic.specs.Form.{D, Δ}
use Rattle.conic.specs.Base.{in_range}
use Rattle.conic.specs.declared.conic.Conic.{Conic}
use Rattle.conic.proofs.Sizes.{in_limit, D-size, aΔ_size}
use Rattle.solve.specs.Demand2.{NonDegenerate, PointIsRight, PointIsLegalBase, PrimeIsTrue, SquareDiscriminant, SquareHasPoint}
use Rattle.solve.specs.Level.{level_of}
use Rattle.solve.specs.Solve.{is_square_number, from_infinity, outcome_carried, solve_levelled, solve_non_degenerate, solve_of}
use Rattle.solve.proofs.Demand2.{point_is_right, prime_is_true, square_has_point}
use Rattle.solve.proofs.Levelling.{levellable, levelled_by_own, D-is, aΔ_is}

-- ---- refusals

abbrev pub is_refusal : Verdict → Bool
is_refusal (point p) = false
is_refusal none_by_sign = false
is_refusal (none_by_prime l) = false
is_refusal (refusal n) = true

-- no refusal: in range, and Δ is not 0
pub answered : (h : Conic) → is_refusal (solve_of h) ≡ false → NonDegenerate h
unfolding solve_of
answered h e =
    let tests : Bool → Bool → Bool = λ (range zero : Bool). is_refusal (cond range (cond zero (refusal 2) (solve_non_degenerate h)) (refusal 1)) in
    by_test (in_range h)
    (λ range. by_test (is_zero (Δ h))
    (λ zero. absurd (not_true_of_false e (ap (λ (t : Bool). tests t (is_zero (Δ h))) range ∙ ap (tests true) zero)))
    (λ other. record { in_range = T-of-true range; not_zero = not_zero_of_false other }))
    (λ out. absurd (not_true_of_false e (ap (λ (t : Bool). tests t (is_zero (Δ h))) out)))

no_refusal : (h : Conic) → is_refusal (solve_non_degenerate h) ≡ false
unfolding solve_non_degenerate solve_levelled outcome_carried
no_refusal h = by (is_square_number (neg_ℤ (D h))) (outcome_of (level_of h).p (level_of h).g (level_of h).q)
  where
    by : (square : Bool) (o : Result Triple Reason) → is_refusal (cond square (point (from_infinity h)) (outcome_carried h o)) ≡ false
    by true o = refl
    by false (Ok m) = refl
    by false (Err Reason.Sign) = refl
    by false (Err (Reason.Prime l)) = refl

-- a refusal in range
pub refused : (h : Conic) → in_range h ≡ true → is_refusal (solve_of h) ≡ true → Δ h ≡ pos 0
unfolding solve_of
refused h range e =
    let tests : Bool → Bool → Bool = λ (range zero : Bool). is_refusal (cond range (cond zero (refusal 2) (solve_non_degenerate h)) (refusal 1)) in
    by_test (is_zero (Δ h))
    is_zero_iff.0
    (λ other. absurd (not_true_of_false (ap (λ (t : Bool). tests t (is_zero (Δ h))) range ∙ ap (tests true) other ∙ no_refusal h) e))

abbrev NumberAtMost : Verdict → Type 0
NumberAtMost (point p) = Unit {0}
NumberAtMost none_by_sign = Unit {0}
NumberAtMost (none_by_prime l) = Unit {0}
NumberAtMost (refusal n) = n ≤ 2

no_number : (v : Verdict) → is_refusal v ≡ false → NumberAtMost v
no_number (point p) e = tt
no_number none_by_sign e = tt
no_number (none_by_prime l) e = tt
no_number (refusal n) e = absurd (not_true_of_false e refl)

pub refusal_at_most : (h : Conic) (n : ℕ) → solve_of h ≡ refusal n → n ≤ 2
unfolding solve_of
refusal_at_most h n e =
    subst NumberAtMost e
    (cond_cases NumberAtMost (in_range h)
    (λ range. cond_cases NumberAtMost (is_zero (Δ h)) (λ zero. lit≤ tt) (λ other. no_number (solve_non_degenerate h) (no_refusal h)))
    (λ out. lit≤ tt))

-- ---- the point

pub point_fits : (h : Conic) (p : Point) → solve_of h ≡ point p → PointWithin point_limit p
unfolding PointIsRight
point_fits h p e =
    let right = point_is_right h p (answered h (ap is_refusal e)) e in
    record { x_within = right.x_within; y_within = right.y_within; z_within = right.z_within }

pub point_is_legal_base : PointIsLegalBase
unfolding PointIsLegalBase PointIsRight point_in_limit
point_is_legal_base h p e =
    let ok = answered h (ap is_refusal e) in
    let right = point_is_right h p ok e in
    record {
      in_range = ok.in_range;
      not_degenerate = ok.not_zero;
      legal = T-of-true (is_base_iff.1 (within_point (point_fits h p e), right.normal_form, right.in_plane));
      on = right.on;
    }

-- ---- the prime

not_square : (h : Conic) (l : ℕ) → solve_of h ≡ none_by_prime l → NonDegenerate h → ¬ SquareDiscriminant h
unfolding SquareHasPoint
not_square h l e ok square =
    let (p, found) = square_has_point h ok square in
    let clash : ◌≡◌ {A = ℕ} 0 1 = cc in
    absurd (omega arith)

-- a divisor of n that is not 0
small : (l : ℕ) (n m : ℤ) (limit : ℕ) → m ≡ n → n ≢ pos 0 → nat_abs n ≤ limit → pos l ∣ℤ m → l ≤ limit
small l n m limit e n≢0 bound d =
    le_trans (divisor_size_bound (nat_abs_positive n≢0) (subst (λ (k : ℤ). pos l ∣ℤ k) e d)) bound

pub prime_below : (h : Conic) (l : ℕ) → solve_of h ≡ none_by_prime l → l < 10 ^ 9
unfolding PrimeIsTrue
prime_below h l e =
    let ok = answered h (ap is_refusal e) in
    let levels = levellable ok.not_zero (not_square h l e ok) in
    let v = levelled_by_own levels in
    let failing = (prime_is_true h l ok e).1 _ _ _ _ _ _ _ v in
    let limits = in_limit h ok.in_range in
    ⊎_elim
    (λ by-pg. lt_of_le_of_lt (small l (D h) _ _ (sym (D-is v)) levels.D-not-zero (D-size h limits) (∣ℤ_times_right _ by-pg)) (lit< tt))
    (λ by-q. lt_of_le_of_lt (small l (h.a *ℤ Δ h) _ _ (sym (aΔ_is v)) levels.aΔ_not_zero (aΔ_size h limits) (∣ℤ_times_right _ (∣ℤ_times_right _ by-q))) (lit< tt))
    (prime_divides_product ((level_of h).p *ℤ (level_of h).g) (level_of h).q failing.prime failing.divides_one)
