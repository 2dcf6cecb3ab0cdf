-- The answer to a levelled equation: none by sign exactly if the three are of one sign; else a prime, which is then the least failing one;
-- else the chosen solution of the box, which holds one by Legendre's theorem and Holzer's bound. The prime
-- is never 2, modulo which every number is a square. Assumes nothing.
use mathlib.Core.Path.{◌≡◌, subst}
use mathlib.Core.Logic.{◌⊎◌, inl, inr, ⊎_elim, ◌↔◌}
use mathlib.Core.Bool.{true, ◌&&◌}
use Prim.Native.Nat.{ℕ, ◌≤◌, ◌<◌}
use native.Mathlib.Omega.{arith}
use borrow.Author.Tests.{ltb-true, ltb-false, lt-ltb, le-ltb}
use lib.Dec.{ltb}
use lib.IntN.{ℤ, pos}
use lib.Signed.{lt_z, ◌<ℤ◌}
use Rattle.std.specs.Prelude.{Result, Ok, Err}
use Rattle.number.specs.Prime as Number
use Rattle.number.proofs.Least.{true_of_T, T-of-true, true_or_false, not_true_of_false, false_of_not_true}
use Rattle.number.proofs.Squarefree.{squarefree_not_zero}
use Rattle.legendre.specs.Equation.{Levelled, Solvable, BoxSolution, SolvableInBox, OneSign, ConditionAt}
use Rattle.legendre.specs.Theorems.{Legendre, NoneBySign, Holzer}
use Rattle.legendre.specs.Outcome.{is_one_sign, prime_limit, least_failing, chosen, outcome_of}
use Rattle.legendre.specs.Answer.{SignExactly, SolutionExactly, Chosen, SolutionIsChosen, LeastFailing, PrimeIsLeastFailing, TwoNeverFails}
use Rattle.legendre.specs.declared.outcome.Triple.{Triple}
use Rattle.legendre.specs.declared.outcome.Reason.{Reason}
use Rattle.legendre.specs.declared.outcome.Reason.TheVariants.{Sign, Prime}
use Rattle.legendre.proofs.Tests.{all_three_iff, either_iff}
use Rattle.legendre.proofs.Sign.{none_by_sign}
use Rattle.legendre.proofs.Legendre.{legendre}
use Rattle.legendre.proofs.Holzer.{holzer}
use Rattle.legendre.proofs.Conditions.{least_failing_found, none_fails, square_modulo_two}
use Rattle.legendre.proofs.Choice.{chosen_is_chosen}

-- ---- one sign and its test

below_iff : {a b : ℤ} → (lt_z a b ≡ true) ↔ (a <ℤ b)
below_iff {a} {b} = (λ e. record { lt = T-of-true e }, λ h. true_of_T (lt_z a b) h.lt)

all_below_iff : {a b c d e f : ℤ} → (lt_z a b && lt_z c d && lt_z e f ≡ true) ↔ ((a <ℤ b) × (c <ℤ d) × (e <ℤ f))
all_below_iff {a} {b} {c} {d} {e} {f} = (
  λ h. (below_iff.0 (tests.0 h).0, below_iff.0 (tests.0 h).1, below_iff.0 (tests.0 h).2),
  λ h. tests.1 (below_iff.1 h.0, below_iff.1 h.1, below_iff.1 h.2),
)
  where
    tests : (lt_z a b && lt_z c d && lt_z e f ≡ true) ↔ ((lt_z a b ≡ true) × (lt_z c d ≡ true) × (lt_z e f ≡ true))
    tests = all_three_iff (lt_z a b) (lt_z c d) (lt_z e f)

one_sign_iff : (p g q : ℤ) → (is_one_sign p g q ≡ true) ↔ OneSign p g q
unfolding is_one_sign
one_sign_iff p g q = (
  λ e. ⊎_elim (λ h. inl (all_below_iff.0 h)) (λ h. inr (all_below_iff.0 h)) (either.0 e),
  λ h. either.1 (⊎_elim (λ k. inl (all_below_iff.1 k)) (λ k. inr (all_below_iff.1 k)) h),
)
  where
    either : (is_one_sign p g q ≡ true) ↔ ((lt_z (pos 0) p && lt_z (pos 0) g && lt_z (pos 0) q ≡ true) ⊎ (lt_z p (pos 0) && lt_z g (pos 0) && lt_z q (pos 0) ≡ true))
    either = either_iff _ _

-- ---- the three answers

pub outcome_sign : {p g q : ℤ} → OneSign p g q → outcome_of p g q ≡ Err Sign
unfolding outcome_of
outcome_sign {p} {g} {q} signs = rw ((one_sign_iff p g q).1 signs)

outcome_least :
    {p g q : ℤ} → ¬ OneSign p g q → least_failing p g q < prime_limit p g q →
    outcome_of p g q ≡ Err (Prime (least_failing p g q))
unfolding outcome_of
outcome_least {p} {g} {q} mixed found = rw (false_of_not_true (λ e. mixed ((one_sign_iff p g q).0 e)), lt-ltb (least_failing p g q) (prime_limit p g q) found)

outcome_chosen : {p g q : ℤ} → ¬ OneSign p g q → prime_limit p g q ≤ least_failing p g q → outcome_of p g q ≡ Ok (chosen p g q)
unfolding outcome_of
outcome_chosen {p} {g} {q} mixed none = rw (false_of_not_true (λ e. mixed ((one_sign_iff p g q).0 e)), le-ltb (least_failing p g q) (prime_limit p g q) none)

data Way (p g q : ℤ) : Type 0 where
  by_sign : OneSign p g q → Way p g q
  by_prime : ¬ OneSign p g q → least_failing p g q < prime_limit p g q → Way p g q
  by_solution : ¬ OneSign p g q → prime_limit p g q ≤ least_failing p g q → Way p g q

way : (p g q : ℤ) → Way p g q
way p g q = ⊎_elim (λ e. by_sign ((one_sign_iff p g q).0 e)) (λ e. other (λ signs. not_true_of_false e ((one_sign_iff p g q).1 signs))) (true_or_false (is_one_sign p g q))
  where
    other : ¬ OneSign p g q → Way p g q
    other mixed =
        ⊎_elim (λ e. by_prime mixed (ltb-true (least_failing p g q) (prime_limit p g q) e)) (λ e. by_solution mixed (ltb-false (least_failing p g q) (prime_limit p g q) e))
        (true_or_false (ltb (least_failing p g q) (prime_limit p g q)))

-- ---- one answer is not another

not_sign_and_prime : {o : Result Triple Reason} {l : ℕ} → o ≡ Err Sign → o ≡ Err (Prime l) → ⊥
not_sign_and_prime e f = let z : ◌≡◌ {A = ℕ} 0 1 = cc in omega arith

not_sign_and_solution : {o : Result Triple Reason} {t : Triple} → o ≡ Err Sign → o ≡ Ok t → ⊥
not_sign_and_solution e f = let z : ◌≡◌ {A = ℕ} 0 1 = cc in omega arith

not_prime_and_solution : {o : Result Triple Reason} {l : ℕ} {t : Triple} → o ≡ Err (Prime l) → o ≡ Ok t → ⊥
not_prime_and_solution e f = let z : ◌≡◌ {A = ℕ} 0 1 = cc in omega arith

-- ---- by sign

pub sign_exactly : SignExactly
unfolding SignExactly
sign_exactly p g q = (go (way p g q), outcome_sign)
  where
    go : Way p g q → outcome_of p g q ≡ Err Sign → OneSign p g q
    go (by_sign signs) e = signs
    go (by_prime mixed found) e = absurd (not_sign_and_prime e (outcome_least mixed found))
    go (by_solution mixed none) e = absurd (not_sign_and_solution e (outcome_chosen mixed none))

-- ---- by the least failing prime

pub prime_is_least_failing : PrimeIsLeastFailing
unfolding PrimeIsLeastFailing
prime_is_least_failing p g q l e = go (way p g q)
  where
    same : {m : ℕ} → outcome_of p g q ≡ Err (Prime m) → m ≡ l
    same f = cc

    go : Way p g q → LeastFailing p g q l
    go (by_sign signs) = absurd (not_sign_and_prime (outcome_sign signs) e)
    go (by_prime mixed found) = subst (LeastFailing p g q) (same (outcome_least mixed found)) (least_failing_found p g q found)
    go (by_solution mixed none) = absurd (not_prime_and_solution e (outcome_chosen mixed none))

-- ---- by the chosen solution

-- not of one sign, and the condition holds at every prime: the walk of the box ends at a solution
pub solution_in_box : {p g q : ℤ} → Levelled p g q → ¬ OneSign p g q → ((l : ℕ) → Number.Prime l → ConditionAt l p g q) → SolvableInBox p g q
unfolding Legendre Holzer
solution_in_box {p} {g} {q} levelled mixed holds = holzer p g q levelled ((legendre p g q levelled mixed).1 holds)

solvable : {p g q : ℤ} {x y w : ℕ} → BoxSolution p g q x y w → Solvable p g q
solvable {x} {y} {w} h = record { x = pos x; y = pos y; w = pos w; solution = h.solution }

outcome_solvable : {p g q : ℤ} → Levelled p g q → Solvable p g q → outcome_of p g q ≡ Ok (chosen p g q)
unfolding Legendre NoneBySign
outcome_solvable {p} {g} {q} levelled s = outcome_chosen mixed (omega (arith, none))
  where
    mixed : ¬ OneSign p g q
    mixed signs = none_by_sign p g q signs s

    none : ¬ (least_failing p g q < prime_limit p g q)
    none found = (least_failing_found p g q found).fails ((legendre p g q levelled mixed).0 s (least_failing p g q) (least_failing_found p g q found).prime)

chosen_of_solvable : {p g q : ℤ} → Levelled p g q → Solvable p g q → Chosen p g q (chosen p g q)
unfolding Holzer
chosen_of_solvable {p} {g} {q} levelled s = chosen_is_chosen p g q (squarefree_not_zero levelled.squarefree_g) (holzer p g q levelled s)

pub solution_is_chosen : SolutionIsChosen
unfolding SolutionIsChosen
solution_is_chosen p g q t levelled e = go (way p g q)
  where
    same : {s : Triple} → outcome_of p g q ≡ Ok s → s ≡ t
    same f = cc

    go : Way p g q → Chosen p g q t
    go (by_sign signs) = absurd (not_sign_and_solution (outcome_sign signs) e)
    go (by_prime mixed found) = absurd (not_prime_and_solution (outcome_least mixed found) e)
    go (by_solution mixed none) = subst (Chosen p g q) (same (outcome_chosen mixed none))
        (chosen_of_solvable levelled (solvable (solution_in_box levelled mixed (none_fails levelled none)).solution))

pub solution_exactly : SolutionExactly
unfolding SolutionExactly SolutionIsChosen
solution_exactly p g q levelled = (
  λ given. solvable (solution_is_chosen p g q given.0 levelled given.1).in_box,
  λ s. (chosen p g q, outcome_solvable levelled s),
)

-- ---- 2 never fails

pub two_never_fails : TwoNeverFails
unfolding TwoNeverFails
two_never_fails p g q =
    record { at_p = λ h. square_modulo_two _; at_g = λ h. square_modulo_two _; at_q = λ h. square_modulo_two _ }
