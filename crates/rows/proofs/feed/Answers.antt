-- `rows::feed` meets its promise: a byte that is kept, a row that is answered and a stop each carry the loop's
-- invariant on. Assumes nothing.
use Rattle.rows.proofs.Going.{starts, kept, answered, stops, ends}
use Rattle.rows.proofs.Placed.{row_call, no_room_call}
use Rattle.rows.proofs.feed.Goals.{then-b-eq-LINE_FEED+in-Ok, else-b-eq-LINE_FEED}
use Rattle.rows.proofs.feed.Goals as goal

pub loop-taken-init : goal.loop-taken-init
loop-taken-init c = starts _ _ _

pub loop-taken-preserved : goal.loop-taken-preserved
loop-taken-preserved c =
    let loop = c.loop-taken in
    elim c.if-b-eq-LINE_FEED.branch [
      | then-b-eq-LINE_FEED+in-Ok w ↦
          rw (w.out-is, w.cutter-is, w.written-is)
          (answered _ _ _ loop.cutter loop.taken loop.written loop.out loop.invariant c.loop-taken-test.true
          w.if-b-eq-LINE_FEED.true
          w.in-Ok.n
          _
          (row_call _ _ loop.invariant.written_within _ _ w.answer.result _ w.in-Ok.is w.answer.ensures w.answer.auto.out))
      | else-b-eq-LINE_FEED w ↦
          rw (w.out-is, w.cutter-is, w.written-is, w.keep.ensures)
          (kept _ _ _ loop.cutter loop.taken loop.written loop.out loop.invariant c.loop-taken-test.true
          w.if-b-eq-LINE_FEED.false)
    ]

pub returns : goal.returns
returns c = ends _ _ _ _ _ _ _ c.loop-taken.invariant c.loop-taken-test.false

pub returns-in_default : goal.returns-in_default
returns-in_default c =
    let loop = c.loop-taken in
    stops _ _ _ loop.cutter loop.taken loop.written loop.out loop.invariant
    c.loop-taken-test.true
    c.if-b-eq-LINE_FEED.true
    _
    (no_room_call _ _ loop.invariant.written_within _ _ c.answer.result _ c.in_default.is c.answer.ensures)
