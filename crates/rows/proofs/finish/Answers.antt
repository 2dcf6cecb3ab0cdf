-- `rows::finish` meets its promise: a short buffer is refused first, an empty last row gives nothing, any other its row. Assumes
-- nothing.
use Rattle.std.proofs.Common.{rules, arith, ◌≡◌, length}
use Rattle.rows.proofs.Held.{finish_refused, finish_nothing, finish_row}
use Rattle.rows.proofs.finish.Goals as goal

pub returns-then-out-lt-BUFFER_LIMIT : goal.returns-then-out-lt-BUFFER_LIMIT
returns-then-out-lt-BUFFER_LIMIT c = finish_refused _ _ c.if-out-lt-BUFFER_LIMIT.true

pub returns-then-cutter-eq0 : goal.returns-then-cutter-eq0
returns-then-cutter-eq0 c = finish_nothing _ _ (omega arith) (omega arith)

pub returns : goal.returns
returns c =
    let size : length c.args.cutter.held ≡ 48 = search rules in
    finish_row _ _ _ _ size (λ empty. omega arith) c.answer.ensures
