-- Solve refuses exactly for the paper's causes: each cause gives its number, and a conic that is refused is out of
-- range, or in range with Δ = 0. Assumes nothing.
use mathlib.Core.Path.{◌≡◌, sym, ap, subst, ◌∙◌}
use mathlib.Core.Bool.{true}
use Prim.Native.Nat.{ℕ}
use Rattle.number.proofs.Least.{true_of_T, T-of-true, false_of_not_true, not_true_of_false}
use Rattle.point.specs.Paper.{refusal}
use Rattle.point.proofs.Cases.{by_test, when, unless}
use Rattle.point.proofs.Limits.{bound_within}
use Rattle.point.proofs.Tests.{is_zero_iff}
use Rattle.conic.specs.Base.{in_range}
use Rattle.conic.specs.Sizes.{InLimit}
use Rattle.conic.specs.declared.conic.Conic.{Conic}
use Rattle.conic.proofs.Sizes.{in_limit}
use Rattle.solve.specs.Demand2.{NeverRefused}
use Rattle.solve.specs.Refusals.{ConicCause, out_of_range, degenerate, SolveRefusesExactly}
use Rattle.solve.specs.Solve.{solve_of}
use Rattle.solve.proofs.Answers.{is_refusal, refused}

limit_in_range : {h : Conic} → InLimit h → in_range h ≡ true
unfolding in_range
limit_in_range {h} l =
    rw (
      bound_within h.a l.a_within,
      bound_within h.b l.b_within,
      bound_within h.c l.c_within,
      bound_within h.d l.d_within,
      bound_within h.e l.e_within,
      bound_within h.f l.f_within,
    )

solve_refused : {h : Conic} {n : ℕ} → ConicCause h n → refusal n ≡ solve_of h
unfolding solve_of
solve_refused {h} (out_of_range out) = unless _ _ (false_of_not_true (λ e. out (in_limit h (T-of-true e))))
solve_refused (degenerate range flat) = when _ _ (is_zero_iff.1 flat) ∙ when _ _ (limit_in_range range)

pub solve_refuses_exactly : SolveRefusesExactly
unfolding SolveRefusesExactly
solve_refuses_exactly h n = (
  λ e. by_test (in_range h)
      (λ range. caused e (degenerate (in_limit h (T-of-true range)) (refused h range (ap is_refusal e))))
      (λ out. caused e (out_of_range (λ l. not_true_of_false out (limit_in_range l)))),
  λ c. sym (solve_refused c),
)
  where
    caused : {m : ℕ} → solve_of h ≡ refusal n → ConicCause h m → ConicCause h n
    caused e c = subst (ConicCause h) (cc (solve_refused c)) c

pub never_refused : NeverRefused
unfolding NeverRefused
never_refused h n ok e = ok.not_zero (refused h (true_of_T _ ok.in_range) (ap is_refusal e))
