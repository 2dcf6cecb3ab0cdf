-- `point::Point::is_normal` meets its contract, test by test. Assumes nothing.
use mathlib.Core.Path.{◌≡◌, ap}
use Prim.Native.Nat.{ℕ}
use lib.Dec.{eqb}
use Rattle.point.specs.Legal.{is_normal}
use Rattle.point.proofs.Passed.{tested}
use Rattle.point.proofs.Point.is_normal.Goals as goal

equal_test : (k m n : ℕ) → m ≡ n → eqb m k ≡ eqb n k
equal_test k m n = ap (λ (i : ℕ). eqb i k)

pub returns : goal.returns
unfolding is_normal
returns c = search (equal_test, tested) depth 60 fits 9999
