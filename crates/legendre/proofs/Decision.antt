-- The answer from what the functions find: by sign; else by what the search for a failing prime gives. Where it gives nothing, the
-- condition holds at every prime, so that the box holds a solution. Assumes nothing.
use mathlib.Core.Path.{◌≡◌, refl, sym}
use mathlib.Core.Logic.{⊎_elim}
use mathlib.Core.Bool.{Bool, true, false, cond}
use Prim.Native.Nat.{ℕ, ◌≤◌}
use native.Mathlib.Omega.{arith}
use borrow.Author.Tests.{ltb-false}
use lib.Dec.{ltb}
use lib.IntN.{ℤ}
use Rattle.std.specs.Prelude.{Option, Some, None, Result, Ok, Err}
use Rattle.number.proofs.Least.{true_or_false}
use Rattle.legendre.specs.Equation.{Levelled, OneSign, SolvableInBox}
use Rattle.legendre.specs.Outcome.{is_one_sign, fails_at, prime_limit, least_failing, chosen, outcome_of}
use Rattle.legendre.specs.Search.{least_below}
use Rattle.legendre.specs.declared.outcome.Triple.{Triple}
use Rattle.legendre.specs.declared.outcome.Reason.{Reason}
use Rattle.legendre.specs.declared.outcome.Reason.TheVariants.{Sign, Prime}
use Rattle.legendre.proofs.Conditions.{none_fails}
use Rattle.legendre.proofs.Answer.{outcome_sign, solution_in_box}

abbrev pub answer_of : Option ℕ → Triple → Result Triple Reason
answer_of (Some l) t = Err (Prime l)
answer_of None t = Ok t

answer_by_test : (b : Bool) (l : ℕ) (t : Triple) → cond b (Err (Prime l)) (Ok t) ≡ answer_of (cond b (Some l) None) t
answer_by_test true l t = refl
answer_by_test false l t = refl

module _ (p g q : ℤ) where
  -- what the search for the least failing prime gives
  abbrev pub found : Option ℕ
  found = least_below (fails_at p g q) (prime_limit p g q)

  pub answer_sign : is_one_sign p g q ≡ true → Err Sign ≡ outcome_of p g q
  unfolding outcome_of
  answer_sign e = sym (rw e)

  pub answer_mixed : is_one_sign p g q ≡ false → answer_of found (chosen p g q) ≡ outcome_of p g q
  unfolding outcome_of least_failing least_below
  answer_mixed e = sym (rw e (answer_by_test (ltb (least_failing p g q) (prime_limit p g q)) (least_failing p g q) (chosen p g q)))

  module _ (levelled : Levelled p g q) (mixed : is_one_sign p g q ≡ false) (nothing : found ≡ None) where
    not_one_sign : ¬ OneSign p g q
    not_one_sign signs =
        let by_sign : outcome_of p g q ≡ Err Sign = outcome_sign signs in
        let by_search : answer_of found (chosen p g q) ≡ outcome_of p g q = answer_mixed mixed in
        let solution : answer_of found (chosen p g q) ≡ Ok (chosen p g q) = rw nothing in
        let clash : ◌≡◌ {A = ℕ} 0 1 = cc in
        omega arith

    limit_reached : prime_limit p g q ≤ least_failing p g q
    unfolding least_failing least_below
    limit_reached = ⊎_elim (λ e. absurd (at_and_nothing (rw e at nothing))) (ltb-false (least_failing p g q) (prime_limit p g q)) (true_or_false (ltb (least_failing p g q) (prime_limit p g q)))
      where
        at_and_nothing : Some (least_failing p g q) ≡ None → ⊥
        at_and_nothing e = let clash : ◌≡◌ {A = ℕ} 0 1 = cc in omega arith

    pub solvable : SolvableInBox p g q
    solvable = solution_in_box levelled not_one_sign (none_fails levelled limit_reached)
