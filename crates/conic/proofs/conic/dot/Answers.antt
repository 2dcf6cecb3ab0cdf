-- `conic::conic::dot` meets its contract: each product and each sum fits, and is read back from its bits. Assumes nothing.
use mathlib.Core.Path.{◌≡◌, ap₂, ◌∙◌}
use lib.IntN.{◌*ℤ◌}
use mir.Syntax.{w64}
use mir.Val.{to_z, of_z}
use mir.Facts.{to_z-of_z}
use Rattle.conic.proofs.Products.{first_fits, second_fits, third_fits, two_fit, three_fit}
use Rattle.conic.proofs.conic.dot.Goals.{Start}
use Rattle.conic.proofs.conic.dot.Goals as goal

pub overflow_mul-result : goal.overflow_mul-result
overflow_mul-result c = rw (to_z-of_z c.ranges.a, to_z-of_z c.ranges.x) (first_fits c.requires)

pub overflow_mul-result-2 : goal.overflow_mul-result-2
overflow_mul-result-2 c = rw (to_z-of_z c.ranges.b, to_z-of_z c.ranges.y) (second_fits c.requires)

pub overflow_mul-result-3 : goal.overflow_mul-result-3
overflow_mul-result-3 c = rw (to_z-of_z c.ranges.c, to_z-of_z c.ranges.z) (third_fits c.requires)

-- the products as they are read back
module _ (c : Start) where
  first : to_z w64 (of_z w64 (to_z w64 (of_z w64 c.args.a) *ℤ to_z w64 (of_z w64 c.args.x))) ≡ c.args.a *ℤ c.args.x
  first = to_z-of_z (overflow_mul-result c) ∙ ap₂ ◌*ℤ◌ (to_z-of_z c.ranges.a) (to_z-of_z c.ranges.x)

  second : to_z w64 (of_z w64 (to_z w64 (of_z w64 c.args.b) *ℤ to_z w64 (of_z w64 c.args.y))) ≡ c.args.b *ℤ c.args.y
  second = to_z-of_z (overflow_mul-result-2 c) ∙ ap₂ ◌*ℤ◌ (to_z-of_z c.ranges.b) (to_z-of_z c.ranges.y)

  third : to_z w64 (of_z w64 (to_z w64 (of_z w64 c.args.c) *ℤ to_z w64 (of_z w64 c.args.z))) ≡ c.args.c *ℤ c.args.z
  third = to_z-of_z (overflow_mul-result-3 c) ∙ ap₂ ◌*ℤ◌ (to_z-of_z c.ranges.c) (to_z-of_z c.ranges.z)

pub overflow_add-result : goal.overflow_add-result
overflow_add-result c = rw (first c, second c) (two_fit c.requires)

pub overflow_add-result-2 : goal.overflow_add-result-2
overflow_add-result-2 c = rw (first c, second c, third c, to_z-of_z (two_fit c.requires)) (three_fit c.requires)

pub returns : goal.returns
returns c = rw (first c, second c, third c, to_z-of_z (two_fit c.requires), to_z-of_z (three_fit c.requires))
