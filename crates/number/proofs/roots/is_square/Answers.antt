-- `number::roots::is_square` meets its contract: what the shift refuses leaves no square's remainder modulo 64; of the others the
-- root's square is at most n, so it fits, and the code's test is the definition's. Assumes nothing.
use mathlib.Core.Path.{refl, sym, ap}
use Prim.Native.Nat.{ℕ, ◌*◌}
use native.Mathlib.Omega.{arith}
use lib.Dec.{eqb}
use Rattle.number.specs.Least.{least, first_from}
use Rattle.number.specs.Square.{is_square}
use Rattle.number.proofs.Square.{root_law}
use Rattle.number.proofs.SquareResidue.{no_square}
use Rattle.number.proofs.roots.is_square.Goals as goal

pub returns-then-n-eq0 : goal.returns-then-n-eq0
unfolding least first_from
returns-then-n-eq0 c = sym (no_square _ c.args.n c.if-n-eq0.true refl)

pub overflow_mul-result : goal.overflow_mul-result
overflow_mul-result c = omega (arith, (root_law c.args.n c.root-r.result).1 c.root-r.ensures)

pub returns : goal.returns
unfolding is_square
returns c = ap (λ (r : ℕ). eqb (r * r) c.args.n) c.root-r.ensures
