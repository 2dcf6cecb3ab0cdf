-- `direction::point_of` meets its contract: the base's refusal comes first, then the direction's, and past them the step is the
-- definition's. Assumes nothing.
use Rattle.std.proofs.Common.{sym, ap, ◌∙◌}
use Rattle.std.proofs.lemmas.Result.{err_from_is_err_and}
use Rattle.number.proofs.Least.{T-of-true}
use Rattle.point.specs.Paper.{point}
use Rattle.direction.proofs.Entries.{point_refused, point_no_direction, point_reached}
use Rattle.direction.proofs.point_of.Goals as goal

pub returns-in_err-base : goal.returns-in_err-base
returns-in_err-base c =
    let p = err_from_is_err_and c.from_residual.result c.from_residual.ensures.1 in
    rw (p.1, p.2) (record { as_defined = point_refused _ _ _ c.in_err-base.ensures.err })

pub point_from-requires : goal.point_from-requires
point_from-requires c = T-of-true (sym c.if-is_direction.ensures)

pub returns-then-is_direction : goal.returns-then-is_direction
returns-then-is_direction c =
    let (h_is, p_is, legal) = c.in_ok-base.ensures.ok in
    record {
      as_defined = ap point (rw (h_is, p_is) at c.point_from.ensures) ∙ point_reached _ _ _ legal (sym c.if-is_direction.ensures);
    }

pub returns-else-is_direction : goal.returns-else-is_direction
returns-else-is_direction c =
    record { as_defined = point_no_direction _ _ _ c.in_ok-base.ensures.ok.2 (sym c.if-is_direction.ensures) }
