-- `conic::base::judge` meets its contract: what the conic alone is refused for comes first, then each refusal is given where the
-- definition's tests give it. Assumes nothing.
use Rattle.std.proofs.Common.{sym, arith}
use Rattle.std.proofs.lemmas.Int.{ints}
use Rattle.std.proofs.lemmas.Result.{err_from_is_err_and}
use Rattle.number.proofs.Least.{T-of-true}
use Rattle.point.proofs.Limits.{base_within}
use Rattle.point.proofs.Tests.{is_zero_iff, is_zero_not}
use Rattle.conic.proofs.Legal.{conic_past, conic_refused, judged_base, judged_off, judged_legal}
use Rattle.conic.proofs.Sizes.{in_limit}
use Rattle.conic.proofs.base.judge.Goals as goal

pub returns-in_err-judge_conic : goal.returns-in_err-judge_conic
returns-in_err-judge_conic c =
    let p = err_from_is_err_and c.from_residual.result c.from_residual.ensures.1 in
    rw (p.1, p.2) (conic_refused _ _ c.in_err-judge_conic.ensures)

pub returns-then-not-is_base : goal.returns-then-not-is_base
returns-then-not-is_base c =
    let past = conic_past _ c.in_ok-judge_conic.ensures in
    judged_base _ _ past.0 past.1 (sym c.if-not-is_base.ensures)

pub at-requires : goal.at-requires
at-requires c =
    record {
      conic = in_limit _ (T-of-true (conic_past _ c.in_ok-judge_conic.ensures).0);
      point = base_within _ (sym c.if-not-is_base.ensures);
    }

pub returns-then-at-eq0 : goal.returns-then-at-eq0
returns-then-at-eq0 c =
    let past = conic_past _ c.in_ok-judge_conic.ensures in
    judged_legal _ _ past.0 past.1 (sym c.if-not-is_base.ensures) (is_zero_iff.1 (omega (arith, ints)))

pub returns-else-at-eq0 : goal.returns-else-at-eq0
returns-else-at-eq0 c =
    let past = conic_past _ c.in_ok-judge_conic.ensures in
    judged_off _ _ past.0 past.1 (sym c.if-not-is_base.ensures) (is_zero_not (λ e. omega (arith, ints)))
