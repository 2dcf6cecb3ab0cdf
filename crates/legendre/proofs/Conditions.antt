-- Legendre's condition at a prime and the tests that decide it; a prime at which it fails divides one of the three, so it is below the
-- limit of the search, and the search finds the least one. Modulo 2 every number is a square. Assumes nothing.
use mathlib.Core.Path.{◌≡◌, sym, subst}
use mathlib.Core.Logic.Dec
use mathlib.Core.Logic.{◌↔◌, by_cases}
use mathlib.Core.Bool.{Bool, true, false, ◌&&◌, ◌||◌, not, Bool-discrete, and-eq-true_iff}
use Prim.Native.Nat.{ℕ, ◌≤◌, ◌<◌}
use native.Mathlib.Nat.{lt_of_not-le, not-le_of_lt}
use native.Mathlib.Omega.{arith}
use lib.IntN.{ℤ, pos, neg_ℤ, nat_abs, ◌*ℤ◌}
use Rattle.number.specs.Divides.{◌∣ℤ◌, divides}
use Rattle.number.specs.Prime.{Prime, is_prime}
use Rattle.number.specs.Remainder.{remainder_of}
use Rattle.number.specs.Residue.{SquareModulo, is_square_modulo}
use Rattle.number.specs.Squarefree.{Squarefree}
use Rattle.number.proofs.Congruence.{Congruent, remainder_below, remainder_congruent}
use Rattle.number.proofs.Divides.{decide-∣ℤ, divides_sizes_iff, divisor_size_bound, ∣ℤ_times_left, ∣ℤ_times_right}
use Rattle.number.proofs.Least.{least_holds, fails_below_least, least_found, not_true_of_false, false_of_not_true}
use Rattle.number.proofs.Prime.{is_prime_iff}
use Rattle.number.proofs.Square.{own_square}
use Rattle.number.proofs.Residues.{is_square_modulo_iff, square_by_root}
use Rattle.number.proofs.Squarefree.{squarefree_positive}
use Rattle.legendre.specs.Equation.{Levelled, ConditionAt}
use Rattle.legendre.specs.Outcome.{holds_for, fails_at, prime_limit, least_failing}
use Rattle.legendre.specs.Answer.{LeastFailing}
use Rattle.legendre.proofs.Tests.{all_three_iff, implied_iff, not_iff}

-- ---- the condition and its tests

holds_for_iff : {l : ℕ} → 0 < l → (a b c : ℤ) → (holds_for l a b c ≡ true) ↔ (pos l ∣ℤ a → SquareModulo l (neg_ℤ (b *ℤ c)))
unfolding holds_for
holds_for_iff {l} positive a b c = (
  λ e h. (is_square_modulo_iff positive).0 (tests.0 e ((divides_sizes_iff {a = pos l} {b = a}).0 h)),
  λ f. tests.1 (λ e. (is_square_modulo_iff positive).1 (f ((divides_sizes_iff {a = pos l} {b = a}).1 e))),
)
  where
    tests : (not (divides l (nat_abs a)) || is_square_modulo l (neg_ℤ (b *ℤ c)) ≡ true)
        ↔ (divides l (nat_abs a) ≡ true → is_square_modulo l (neg_ℤ (b *ℤ c)) ≡ true)
    tests = implied_iff (divides l (nat_abs a)) (is_square_modulo l (neg_ℤ (b *ℤ c)))

-- the three tests at l
abbrev holds_at : ℤ → ℤ → ℤ → ℕ → Bool
holds_at p g q l = holds_for l p g q && holds_for l g p q && holds_for l q p g

condition_iff : {l : ℕ} → 0 < l → (p g q : ℤ) → (holds_at p g q l ≡ true) ↔ ConditionAt l p g q
condition_iff {l} positive p g q = (condition, λ h. tests.1 (at_p.1 h.at_p, at_g.1 h.at_g, at_q.1 h.at_q))
  where
    at_p : (holds_for l p g q ≡ true) ↔ (pos l ∣ℤ p → SquareModulo l (neg_ℤ (g *ℤ q)))
    at_p = holds_for_iff positive p g q

    at_g : (holds_for l g p q ≡ true) ↔ (pos l ∣ℤ g → SquareModulo l (neg_ℤ (p *ℤ q)))
    at_g = holds_for_iff positive g p q

    at_q : (holds_for l q p g ≡ true) ↔ (pos l ∣ℤ q → SquareModulo l (neg_ℤ (p *ℤ g)))
    at_q = holds_for_iff positive q p g

    tests : (holds_at p g q l ≡ true) ↔ ((holds_for l p g q ≡ true) × (holds_for l g p q ≡ true) × (holds_for l q p g ≡ true))
    tests = all_three_iff (holds_for l p g q) (holds_for l g p q) (holds_for l q p g)

    condition : holds_at p g q l ≡ true → ConditionAt l p g q
    condition e = record { at_p = at_p.0 (tests.0 e).0; at_g = at_g.0 (tests.0 e).1; at_q = at_q.0 (tests.0 e).2 }

pub decide_condition : {l : ℕ} → 0 < l → (p g q : ℤ) → Dec (ConditionAt l p g q)
decide_condition {l} positive p g q = Dec.of_iff (condition_iff positive p g q) (Bool-discrete (holds_at p g q l) true)

prime_positive : {l : ℕ} → Prime l → 0 < l
prime_positive prime = omega (arith, prime.at_least_two)

fails_at_iff : {l : ℕ} (p g q : ℤ) → (fails_at p g q l ≡ true) ↔ (Prime l × (¬ ConditionAt l p g q))
unfolding fails_at
fails_at_iff {l} p g q = (
  λ e. (is_prime_iff.0 (tests.0 e).1, λ h. (not_iff (holds_at p g q l)).0 (tests.0 e).0 ((condition e).1 h)),
  λ h. tests.1 ((not_iff (holds_at p g q l)).1 (λ e. h.1 ((condition_iff (prime_positive h.0) p g q).0 e)), is_prime_iff.1 h.0),
)
  where
    tests : (not (holds_at p g q l) && is_prime l ≡ true) ↔ ((not (holds_at p g q l) ≡ true) × (is_prime l ≡ true))
    tests = and-eq-true_iff (not (holds_at p g q l)) (is_prime l)

    condition : not (holds_at p g q l) && is_prime l ≡ true → (holds_at p g q l ≡ true) ↔ ConditionAt l p g q
    condition e = condition_iff (prime_positive (is_prime_iff.0 (tests.0 e).1)) p g q

-- ---- where it can fail

-- l divides none of the three
condition_away : {l : ℕ} {p g q : ℤ} → ¬ (pos l ∣ℤ p) → ¬ (pos l ∣ℤ g) → ¬ (pos l ∣ℤ q) → ConditionAt l p g q
condition_away no-p no-g no-q = record { at_p = λ h. absurd (no-p h); at_g = λ h. absurd (no-g h); at_q = λ h. absurd (no-q h) }

-- it is to be proved only where l divides one of the three
pub condition_by_divisor : {l : ℕ} (p g q : ℤ) → (pos l ∣ℤ (p *ℤ g *ℤ q) → ConditionAt l p g q) → ConditionAt l p g q
condition_by_divisor {l} p g q there = by_cases (decide-∣ℤ (pos l) (p *ℤ g *ℤ q)) there λ away. condition_away
    (λ h. away (∣ℤ_times_right q (∣ℤ_times_right g h))) (λ h. away (∣ℤ_times_right q (∣ℤ_times_left p h))) (λ h. away (∣ℤ_times_left (p *ℤ g) h))

failing_divides : {l : ℕ} (p g q : ℤ) → ¬ ConditionAt l p g q → pos l ∣ℤ (p *ℤ g *ℤ q)
failing_divides {l} p g q fails =
    by_cases (decide-∣ℤ (pos l) (p *ℤ g *ℤ q)) (λ h. h) (λ away. absurd (fails (condition_by_divisor p g q (λ h. absurd (away h)))))

larger_divides_not : {l : ℕ} {n : ℤ} → Squarefree n → nat_abs n < l → ¬ (pos l ∣ℤ n)
larger_divides_not {l} {n} free larger h =
    not-le_of_lt larger (divisor_size_bound (squarefree_positive free) h)

pub failing_below_limit : {l : ℕ} {p g q : ℤ} → Levelled p g q → ¬ ConditionAt l p g q → l < prime_limit p g q
unfolding prime_limit
failing_below_limit levelled fails = lt_of_not-le (λ beyond. fails (condition_away
    (larger_divides_not levelled.squarefree_p (omega arith))
    (larger_divides_not levelled.squarefree_g (omega arith))
    (larger_divides_not levelled.squarefree_q (omega arith))))

-- ---- the search for the least

-- a prime that the search passes over
holds_where_passed : {l : ℕ} (p g q : ℤ) → fails_at p g q l ≡ false → Prime l → ConditionAt l p g q
holds_where_passed p g q e prime =
    (Dec.not-not (decide_condition (prime_positive prime) p g q)).0 (λ fails. not_true_of_false e ((fails_at_iff p g q).1 (prime, fails)))

pub least_failing_found : (p g q : ℤ) → least_failing p g q < prime_limit p g q → LeastFailing p g q (least_failing p g q)
unfolding least_failing
least_failing_found p g q found =
    record {
      prime = fails.0;
      divides_one = failing_divides p g q fails.1;
      fails = fails.1;
      none_smaller = λ m smaller. holds_where_passed p g q (fails_below_least (fails_at p g q) (prime_limit p g q) m smaller);
    }
  where
    fails : Prime (least_failing p g q) × (¬ ConditionAt (least_failing p g q) p g q)
    fails = (fails_at_iff p g q).0 (least_holds (fails_at p g q) (prime_limit p g q) found)

pub none_fails : {p g q : ℤ} → Levelled p g q → prime_limit p g q ≤ least_failing p g q → (l : ℕ) → Prime l → ConditionAt l p g q
unfolding least_failing
none_fails {p} {g} {q} levelled none l prime = holds_where_passed p g q (false_of_not_true passed) prime
  where
    passed : ¬ (fails_at p g q l ≡ true)
    passed e = not-le_of_lt (least_found (fails_at p g q) (failing_below_limit levelled ((fails_at_iff p g q).0 e).1) e) none

-- ---- every number is a square modulo 2

pub square_modulo_two : (m : ℤ) → SquareModulo 2 m
square_modulo_two m =
    square_by_root (pos r)
    (subst (λ (n : ℕ). Congruent (pos 2) (pos n) m) (sym (own_square r (remainder_below (omega arith) m))) (remainder_congruent (omega arith) m))
  where
    r : ℕ
    r = remainder_of 2 m
