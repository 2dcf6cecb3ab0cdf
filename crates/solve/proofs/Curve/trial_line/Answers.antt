-- `solve::Curve::trial_line` meets its contract: each line is returned where those before it have L(S, T) = 0.
-- Assumes nothing.
use Rattle.std.proofs.Common.{arith}
use Rattle.std.proofs.lemmas.Int.{ints}
use Rattle.point.proofs.Tests.{is_zero_iff, is_zero_not}
use Rattle.solve.proofs.Entries.{first_line_lem, second_line_lem, third_line_lem}
use Rattle.solve.proofs.Curve.trial_line.Goals as goal

pub returns-then-derivative_along-ne0 : goal.returns-then-derivative_along-ne0
returns-then-derivative_along-ne0 c = first_line_lem _ _ (is_zero_not (λ e. omega (arith, ints)))

pub returns-then-derivative_along-ne0-2 : goal.returns-then-derivative_along-ne0-2
returns-then-derivative_along-ne0-2 c =
    second_line_lem _ _ (is_zero_iff.1 (omega (arith, ints))) (is_zero_not (λ e. omega (arith, ints)))

pub returns : goal.returns
returns c = third_line_lem _ _ (is_zero_iff.1 (omega (arith, ints))) (is_zero_iff.1 (omega (arith, ints)))
