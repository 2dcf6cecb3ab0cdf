-- `row::answer::verdict` meets its contract, from what reading and solving promise. Assumes nothing.
use Rattle.std.proofs.Common.{◌≡◌, ap, sym, ◌∙◌}
use Rattle.std.proofs.lemmas.Result.{err_from_is_err_and}
use Rattle.std.specs.Prelude.{Err}
use Rattle.point.specs.declared.paper.Refusal.{Refusal}
use Rattle.solve.specs.Answer.{solved}
use Rattle.row.specs.Row.{verdict_on}
use Rattle.row.proofs.answer.verdict.Goals as goal

pub returns-in_err-ok_or : goal.returns-in_err-ok_or
unfolding verdict_on
returns-in_err-ok_or c =
    let p = err_from_is_err_and c.from_residual.result c.from_residual.ensures.1 in
    let none = c.in_err-ok_or.ensures.ok_part in
    let value = simp none at c.in_err-ok_or.ensures.value in
    let row : c.in_err-ok_or.field-0.0 ≡ Refusal.Row = cc in
    ap solved (p.1 ∙ ap Err (p.2 ∙ row)) ∙ ap verdict_on (sym none ∙ c.read.ensures)

pub returns : goal.returns
unfolding verdict_on
returns c = c.solve.ensures.as_defined ∙ ap verdict_on (sym c.in_ok-ok_or.ensures.ok_part ∙ c.read.ensures)
