-- `conic::conic::Conic::derivative_by_x` meets its contract: by the sizes of the numbers each step fits. Assumes nothing.
use mathlib.Core.Path.{refl}
use Prim.Native.Nat.{◌*◌}
use mir.Syntax.{w64}
use Rattle.whole.proofs.Signed.{sizes, fits, reads, bounds}
use Rattle.point.specs.Paper.{coefficient_limit, point_limit}
use Rattle.conic.specs.Form.{Gx}
use Rattle.conic.proofs.Products.{products_fit}
use Rattle.conic.proofs.conic.Conic.derivative_by_x.Goals as goal

pub overflow_mul-self : goal.overflow_mul-self
overflow_mul-self c = fits w64 (search sizes depth 60 fits 9999) tt

pub dot-requires : goal.dot-requires
dot-requires c =
    products_fit (2 * coefficient_limit) point_limit
    (bounds (search sizes depth 60 fits 9999) tt)
    (bounds (search sizes depth 60 fits 9999) tt)
    (bounds (search sizes depth 60 fits 9999) tt)
    (bounds (search sizes depth 60 fits 9999) tt)
    (bounds (search sizes depth 60 fits 9999) tt)
    (bounds (search sizes depth 60 fits 9999) tt)
    tt

pub returns : goal.returns
unfolding Gx
returns c = reads (search sizes depth 60 fits 9999) tt refl
