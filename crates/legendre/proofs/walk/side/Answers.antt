-- `legendre::walk::side` meets its contract: a number whose square is at most |ab| is at most the root of |ab|. Assumes nothing.
use mathlib.Core.Path.{◌≡◌, ap, ◌∙◌}
use native.Mathlib.Numerals.{add-one}
use native.Mathlib.Omega.{arith}
use lib.IntN.{nat_abs, ◌*ℤ◌}
use Rattle.number.specs.Square.{root_of}
use Rattle.number.proofs.Square.{root_law}
use Rattle.legendre.specs.Outcome.{side}
use Rattle.legendre.proofs.MachineProducts.{product_is}
use Rattle.legendre.proofs.Reach.{root_small}
use Rattle.legendre.proofs.walk.side.Goals.{After-root}
use Rattle.legendre.proofs.walk.side.Goals as goal

root_is : (c : After-root) → c.root.result ≡ root_of (nat_abs (c.args.a *ℤ c.args.b))
root_is c = c.root.ensures ∙ ap root_of (c.magnitude.ensures ∙ ap nat_abs (product_is c.ranges.a c.ranges.b (omega arith)))

pub overflow_add-result : goal.overflow_add-result
overflow_add-result c = omega (arith, root_small c.root.result (omega (arith, (root_law (nat_abs (c.args.a *ℤ c.args.b)) c.root.result).1 (root_is c))))

pub returns : goal.returns
unfolding side
returns c = rw (root_is c, add-one)
