-- What solve's definitions give, test by test: each verdict is the one behind the tests that hold. Assumes nothing.
use mathlib.Core.Path.{◌≡◌, refl, ap, ◌∙◌}
use mathlib.Core.Bool.{Bool, true, false, cond}
use lib.IntN.{neg_ℤ}
use Rattle.number.proofs.Least.{T-of-true}
use Rattle.point.specs.Paper.{Verdict, point, refusal, is_zero}
use Rattle.point.specs.declared.Point.{Point}
use Rattle.point.proofs.Cases.{when, unless}
use Rattle.point.proofs.Tests.{not_zero_of_false}
use Rattle.conic.specs.Form.{L, D, Δ}
use Rattle.conic.specs.Base.{in_range, Judgement, legal, refused, conic_judged}
use Rattle.conic.specs.declared.conic.Conic.{Conic}
use Rattle.conic.proofs.Legal.{settled, conic_past}
use Rattle.solve.specs.Demand2.{NonDegenerate}
use Rattle.solve.specs.Solve.{is_square_number, first_line, second_line, third_line, trial_line, from_infinity, solve_levelled, solve_non_degenerate, solve_of}

-- ---- solve

module _ (h : Conic) where
  -- a refusal of the conic alone is solve's, and past it the answer is that of a non-degenerate conic
  pub solve_judged : {j : Judgement} → j ≡ conic_judged h → settled refusal (solve_non_degenerate h) j ≡ solve_of h
  unfolding conic_judged solve_of
  solve_judged e = ap (settled refusal (solve_non_degenerate h)) e ∙ go (in_range h) (is_zero (Δ h)) (solve_non_degenerate h)
    where
      go : (a b : Bool) (v : Verdict) →
          settled refusal v (cond a (cond b (refused 2) legal) (refused 1)) ≡ cond a (cond b (refusal 2) v) (refusal 1)
      go false b v = refl
      go true true v = refl
      go true false v = refl

  pub not_degenerate : legal ≡ conic_judged h → NonDegenerate h
  not_degenerate e =
      let past = conic_past h e in
      record { in_range = T-of-true past.0; not_zero = not_zero_of_false past.1 }

  pub solve_square : is_square_number (neg_ℤ (D h)) ≡ true → point (from_infinity h) ≡ solve_non_degenerate h
  unfolding solve_non_degenerate
  solve_square square = when _ _ square

  pub solve_by_level : is_square_number (neg_ℤ (D h)) ≡ false → solve_levelled h ≡ solve_non_degenerate h
  unfolding solve_non_degenerate
  solve_by_level plain = unless _ _ plain

-- ---- the trial lines

module _ (h : Conic) (s : Point) where
  pub first_line_lem : is_zero (L h s first_line) ≡ false → first_line ≡ trial_line h s
  unfolding trial_line
  first_line_lem e = unless _ _ e

  pub second_line_lem : is_zero (L h s first_line) ≡ true → is_zero (L h s second_line) ≡ false → second_line ≡ trial_line h s
  unfolding trial_line
  second_line_lem e f = unless _ _ f ∙ when _ _ e

  pub third_line_lem : is_zero (L h s first_line) ≡ true → is_zero (L h s second_line) ≡ true → third_line ≡ trial_line h s
  unfolding trial_line
  third_line_lem e f = when _ _ f ∙ when _ _ e
