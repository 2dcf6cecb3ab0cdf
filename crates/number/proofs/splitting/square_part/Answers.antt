-- `number::splitting::square_part` meets its contract: each turn keeps `Trial`, whether it goes to the next divisor or
-- takes one or two out, and what is left at its end is a square or squarefree. Assumes nothing.
use mathlib.Core.Path.{sym, ◌∙◌}
use native.Mathlib.Omega.{arith}
use Rattle.number.proofs.TrialDivision.{trial_next, trial_once, trial_twice, trial_square, trial_squarefree, square_times_divisor_at_most, square_times_root_at_most}
use Rattle.number.proofs.splitting.square_part.Goals as goal

pub loop-divisor-preserved-then-rest-divisor-ne0 : goal.loop-divisor-preserved-then-rest-divisor-ne0
loop-divisor-preserved-then-rest-divisor-ne0 c = trial_next c.loop-divisor.invariant c.loop-divisor-test.true c.ranges.n.fits c.if-rest-divisor-ne0.true

pub loop-divisor-preserved-then-quotient-divisor-ne0 : goal.loop-divisor-preserved-then-quotient-divisor-ne0
loop-divisor-preserved-then-quotient-divisor-ne0 c = trial_once c.loop-divisor.invariant c.loop-divisor-test.true c.if-rest-divisor-ne0.false c.if-quotient-divisor-ne0.true

pub overflow_mul-square : goal.overflow_mul-square
overflow_mul-square c =
    omega (
      arith,
      square_times_divisor_at_most c.loop-divisor.invariant c.loop-divisor-test.true c.if-rest-divisor-ne0.false c.if-quotient-divisor-ne0.false,
    )

pub loop-divisor-preserved : goal.loop-divisor-preserved
loop-divisor-preserved c = trial_twice c.loop-divisor.invariant c.loop-divisor-test.true c.if-rest-divisor-ne0.false c.if-quotient-divisor-ne0.false

pub overflow_mul-result : goal.overflow_mul-result
overflow_mul-result c =
    let t = c.loop-divisor.invariant in
    omega (arith, square_times_root_at_most t (sym c.is_square.ensures ∙ c.if-is_square.true) c.root.ensures)

pub returns-then-is_square : goal.returns-then-is_square
returns-then-is_square c =
    let t = c.loop-divisor.invariant in
    trial_square t (sym c.is_square.ensures ∙ c.if-is_square.true) c.root.ensures

pub returns-else-is_square : goal.returns-else-is_square
returns-else-is_square c =
    trial_squarefree c.loop-divisor.invariant c.loop-divisor-test.false (sym c.is_square.ensures ∙ c.if-is_square.false)
