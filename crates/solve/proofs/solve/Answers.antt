-- `solve::solve` meets its contract: the conic's refusal is given where it has one, and else its answer. Assumes nothing.
use Rattle.std.proofs.Common.{◌∙◌}
use Rattle.std.proofs.lemmas.Result.{err_from_is_err_and}
use Rattle.solve.proofs.Entries.{solve_judged}
use Rattle.solve.proofs.solve.Goals as goal

pub returns-in_err-judged : goal.returns-in_err-judged
returns-in_err-judged c =
    let p = err_from_is_err_and c.from_residual.result c.from_residual.ensures.1 in
    rw (p.1, p.2) (record { as_defined = solve_judged _ c.in_err-judged.ensures.err })

pub returns : goal.returns
returns c =
    let (h_is, legal) = c.in_ok-judged.ensures.ok in
    record { as_defined = rw h_is at c.answer.ensures ∙ solve_judged _ legal }
