-- `conic::conic::Conic::k` meets its contract: by the sizes of the numbers each step fits. Assumes nothing.
use mathlib.Core.Path.{refl}
use mir.Syntax.{w64}
use Rattle.whole.proofs.Signed.{sizes, fits, reads}
use Rattle.conic.specs.Form.{k}
use Rattle.conic.proofs.conic.Conic.k.Goals as goal

pub returns : goal.returns
unfolding k
returns c = reads (search sizes depth 60 fits 9999) tt refl

pub overflow_mul-result : goal.overflow_mul-result
overflow_mul-result c = fits w64 (search sizes depth 60 fits 9999) tt

pub overflow_mul-result-2 : goal.overflow_mul-result-2
overflow_mul-result-2 c = fits w64 (search sizes depth 60 fits 9999) tt

pub overflow_mul-result-3 : goal.overflow_mul-result-3
overflow_mul-result-3 c = fits w64 (search sizes depth 60 fits 9999) tt

pub overflow_sub-result : goal.overflow_sub-result
overflow_sub-result c = fits w64 (search sizes depth 60 fits 9999) tt
