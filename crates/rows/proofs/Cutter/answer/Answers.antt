-- `rows::Cutter::answer` gives what `row` gives for the bytes held: as many as the row has, and never more than there
-- are. Assumes nothing.
use Rattle.std.proofs.Common.{rules, ◌≡◌, List, ℕ, length, take, ap, ◌∙◌, subst}
use Rattle.row.specs.Row.{RowPromise}
use Rattle.rows.proofs.Held.{held_is}
use Rattle.rows.proofs.Cutter.answer.Goals as goal

pub returns : goal.returns
returns c =
    let cutter = c.args.self.now in
    let size : length cutter.held ≡ 48 = search rules in
    subst (λ (text : List ℕ). RowPromise text c.args.out.now c.row.result c.row.new.out)
    (ap (λ (n : ℕ). take n cutter.held) c.min.ensures ∙ held_is cutter size)
    c.row.ensures
