-- `conic::base::judge_conic` meets its contract: each refusal is given where the definition's tests give it. Assumes nothing.
use Rattle.std.proofs.Common.{sym, arith}
use Rattle.std.proofs.lemmas.Int.{ints}
use Rattle.number.proofs.Least.{T-of-true}
use Rattle.point.proofs.Tests.{is_zero_iff, is_zero_not}
use Rattle.conic.proofs.Legal.{conic_range, conic_degenerate, conic_legal}
use Rattle.conic.proofs.Sizes.{in_limit}
use Rattle.conic.proofs.base.judge_conic.Goals as goal

pub returns-then-not-in_range : goal.returns-then-not-in_range
returns-then-not-in_range c = conic_range _ (sym c.if-not-in_range.ensures)

pub determinant-requires : goal.determinant-requires
determinant-requires c = in_limit _ (T-of-true (sym c.if-not-in_range.ensures))

pub returns-then-determinant-eq0 : goal.returns-then-determinant-eq0
returns-then-determinant-eq0 c = conic_degenerate _ (sym c.if-not-in_range.ensures) (is_zero_iff.1 (omega (arith, ints)))

pub returns : goal.returns
returns c = conic_legal _ (sym c.if-not-in_range.ensures) (is_zero_not (λ e. omega (arith, ints)))
