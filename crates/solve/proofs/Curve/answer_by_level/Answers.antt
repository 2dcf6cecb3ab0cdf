-- `solve::Curve::answer_by_level` meets its contract: the levelled equation is within reach, and its answer is carried back
-- case by case. Assumes nothing.
use mathlib.Core.Path.{◌≡◌, sym, ap, subst, ◌∙◌}
use Rattle.std.proofs.lemmas.Result.{err_from_is_err_and}
use Rattle.std.specs.Prelude.{Result}
use Rattle.legendre.specs.Outcome.{outcome_of}
use Rattle.legendre.specs.Reach.{Reach}
use Rattle.legendre.specs.declared.outcome.Reason.{Reason}
use Rattle.legendre.specs.declared.outcome.Triple.{Triple}
use Rattle.legendre.proofs.MachineProducts.{kept}
use Rattle.legendre.proofs.Reach.{kept_p, kept_g, kept_q, in_the_numbers}
use Rattle.point.specs.Paper.{point}
use Rattle.conic.specs.Sizes.{InLimit}
use Rattle.conic.specs.declared.conic.Conic.{Conic}
use Rattle.solve.specs.Level.{level_of, carried_back}
use Rattle.solve.specs.Sizes.{Carries}
use Rattle.solve.specs.Solve.{outcome_carried, solve_levelled}
use Rattle.solve.specs.declared.level.Level.{Level}
use Rattle.solve.proofs.Carrying.{carries}
use Rattle.solve.proofs.Levelling.{Levellable, levellable}
use Rattle.solve.proofs.Reach.{level_in_reach, chosen_in_box}
use Rattle.solve.proofs.Curve.answer_by_level.Goals as goal

module _ {h : Conic} (small : InLimit h) (able : Levellable h) {v : Level} (v_is : v ≡ level_of h) where
  reach : Reach v.p v.g v.q
  reach = subst (λ (v : Level). Reach v.p v.g v.q) (sym v_is) (level_in_reach able small)

  -- p, g and q are handed over one by one
  own : {o : Result Triple Reason} → o ≡ outcome_of (kept v.p) (kept v.g) (kept v.q) → o ≡ outcome_of (level_of h).p (level_of h).g (level_of h).q
  own e = e ∙ in_the_numbers reach outcome_of ∙ ap (λ (v : Level). outcome_of v.p v.g v.q) v_is

  carried : {o : Result Triple Reason} → o ≡ outcome_of (kept v.p) (kept v.g) (kept v.q) → outcome_carried h o ≡ solve_levelled h
  unfolding solve_levelled
  carried e = ap (outcome_carried h) (own e)

pub of-v-requires : goal.of-v-requires
of-v-requires c = (levellable c.args.self.non_degenerate.not_zero c.requires).D-not-zero

pub outcome-requires : goal.outcome-requires
outcome-requires c =
    let r = reach c.args.self.in_limit (levellable c.args.self.non_degenerate.not_zero c.requires) c.of-v.ensures in
    rw (kept_p r, kept_g r, kept_q r) r

pub carried_back-requires : goal.carried_back-requires
carried_back-requires c =
    let m = c.in_ok-solution.solution in
    let small = c.args.self.in_limit in
    let able = levellable c.args.self.non_degenerate.not_zero c.requires in
    subst (λ (v : Level). Carries v m) (sym c.of-v.ensures)
    (carries m small able (chosen_in_box able m (sym (own small able c.of-v.ensures c.in_ok-solution.ensures))))

pub returns-in_err-solution : goal.returns-in_err-solution
unfolding outcome_carried
returns-in_err-solution c =
    let p = err_from_is_err_and c.from_residual.result c.from_residual.ensures.1 in
    rw (p.1, p.2)
    (carried c.args.self.in_limit (levellable c.args.self.non_degenerate.not_zero c.requires) c.of-v.ensures c.in_err-solution.ensures)

pub returns : goal.returns
unfolding outcome_carried
returns c =
    ap point (c.carried_back.ensures ∙ ap (λ (v : Level). carried_back c.args.self.h v c.in_ok-solution.solution) c.of-v.ensures)
    ∙ carried c.args.self.in_limit (levellable c.args.self.non_degenerate.not_zero c.requires) c.of-v.ensures c.in_ok-solution.ensures
