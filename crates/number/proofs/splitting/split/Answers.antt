-- `number::splitting::split` meets its contract: the square part of n is that of its size, and the quotient of n by its square is how
-- the free part is defined. Assumes nothing.
use mathlib.Core.Path.{◌≡◌, ◌∙◌, ap}
use Prim.Native.Nat.{◌<◌}
use native.Mathlib.Nat.{mul-pos}
use native.Mathlib.Omega.{arith}
use lib.IntN.{pos}
use mir.Syntax.{w64}
use mir.Val.{of_z}
use mir.Facts.{to_z-of_z}
use Rattle.number.specs.Squarefree.{square_part}
use Rattle.number.proofs.SquarefreeSplit.{square_part_positive}
use Rattle.number.proofs.SplitFits.{zero_of_bits, split_of_zero, square_fits, quotient_fits, split_reads}
use Rattle.number.proofs.splitting.split.Goals.{After-square_part-square}
use Rattle.number.proofs.splitting.split.Goals as goal

pub returns-then-n-eq0 : goal.returns-then-n-eq0
returns-then-n-eq0 c = split_of_zero (zero_of_bits c.ranges.n c.if-n-eq0.true)

part : (c : After-square_part-square) → c.square_part-square.result ≡ square_part c.args.n
unfolding square_part
part c =
    c.square_part-square.ensures ∙ ap (λ n. square_part (pos n)) c.magnitude.ensures
    ∙ ap square_part (to_z-of_z c.ranges.n)

part_positive : (c : After-square_part-square) → 0 < c.square_part-square.result
part_positive c =
    rw (part c) (square_part_positive c.args.n (λ e. c.if-n-eq0.false (ap (of_z w64) e)))

pub overflow_mul-free : goal.overflow_mul-free
overflow_mul-free c = omega (arith, square_fits c.ranges.n (part c))

pub overflow_cast-free : goal.overflow_cast-free
overflow_cast-free c = square_fits c.ranges.n (part c)

pub nonzero_div-free : goal.nonzero_div-free
nonzero_div-free c = (mul-pos (part_positive c) (part_positive c), quotient_fits c.ranges.n (part c))

pub returns : goal.returns
returns c = split_reads c.ranges.n (part c)
