-- `direction::direction_of` meets its contract: the base's refusal comes first, then the target's, and past them the step is the
-- definition's. Assumes nothing.
use Rattle.std.proofs.Common.{sym, ap, ◌∙◌, arith}
use Rattle.std.proofs.lemmas.Int.{ints}
use Rattle.std.proofs.lemmas.Result.{err_from_is_err_and}
use Rattle.point.proofs.Limits.{target_within}
use Rattle.point.proofs.Tests.{is_zero_iff, is_zero_not}
use Rattle.conic.proofs.Legal.{legal_base, at_base}
use Rattle.direction.specs.Direction.{direction}
use Rattle.direction.proofs.Entries.{direction_refused, direction_no_target, direction_target_off, direction_found}
use Rattle.direction.proofs.direction_of.Goals as goal

pub returns-in_err-base : goal.returns-in_err-base
returns-in_err-base c =
    let p = err_from_is_err_and c.from_residual.result c.from_residual.ensures.1 in
    rw (p.1, p.2) (record { as_defined = direction_refused _ _ _ c.in_err-base.ensures.err })

pub returns-then-not-is_target : goal.returns-then-not-is_target
returns-then-not-is_target c =
    record { as_defined = direction_no_target _ _ _ c.in_ok-base.ensures.ok.2 (sym c.if-not-is_target.ensures) }

pub at-requires : goal.at-requires
at-requires c =
    record {
      conic = (at_base _ _ (legal_base _ _ c.in_ok-base.ensures.ok.2)).conic;
      point = target_within _ (sym c.if-not-is_target.ensures);
    }

pub direction_to-requires : goal.direction_to-requires
direction_to-requires c = target_within _ (sym c.if-not-is_target.ensures)

pub returns-then-at-eq0 : goal.returns-then-at-eq0
returns-then-at-eq0 c =
    let (h_is, p_is, legal) = c.in_ok-base.ensures.ok in
    record {
      as_defined =
          ap direction (rw (h_is, p_is) at c.direction_to.ensures)
          ∙ direction_found _ _ _ legal (sym c.if-not-is_target.ensures) (is_zero_iff.1 (omega (arith, ints)));
    }

pub returns-else-at-eq0 : goal.returns-else-at-eq0
returns-else-at-eq0 c =
    record {
      as_defined =
          direction_target_off _ _ _ c.in_ok-base.ensures.ok.2 (sym c.if-not-is_target.ensures)
          (is_zero_not (λ e. omega (arith, ints)));
    }
