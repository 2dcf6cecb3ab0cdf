-- `conic::conic::Conic::derivative_along` meets its contract: by the sizes of the numbers each step fits. Assumes nothing.
use mathlib.Core.Path.{refl}
use Rattle.whole.proofs.Signed.{sizes, reads, bounds}
use Rattle.point.specs.Paper.{direction_limit}
use Rattle.conic.specs.Form.{L}
use Rattle.conic.proofs.Products.{products_fit}
use Rattle.conic.proofs.Bounds.{limit_derivative, at_start, formSizes}
use Rattle.conic.proofs.conic.Conic.derivative_along.Goals as goal

pub dot-requires : goal.dot-requires
dot-requires c =
    products_fit direction_limit limit_derivative
    (bounds (search sizes depth 60 fits 9999) tt)
    (bounds (search sizes depth 60 fits 9999) tt)
    (bounds (search sizes depth 60 fits 9999) tt)
    (bounds (search (formSizes, sizes, at_start) depth 60 fits 9999) tt)
    (bounds (search (formSizes, sizes, at_start) depth 60 fits 9999) tt)
    (bounds (search (formSizes, sizes, at_start) depth 60 fits 9999) tt)
    tt

pub returns : goal.returns
unfolding L
returns c = reads (search (formSizes, sizes, at_start) depth 60 fits 9999) tt refl
