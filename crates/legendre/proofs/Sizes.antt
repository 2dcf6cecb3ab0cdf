-- The levelled equation through the sizes of X, Y and W: a square is the square of the size, so the sizes solve it where the numbers do;
-- and a term mX² with m > 0 is 0 only where X is. Assumes nothing.
use mathlib.Core.Path.{◌≡◌, ap, ◌∙◌}
use Prim.Native.Nat.{ℕ, ◌*◌, ◌<◌}
use native.Mathlib.Nat.{ne_of_gt}
use lib.IntN.{ℤ, pos, nat_abs, ◌*ℤ◌}
use Rattle.whole.proofs.Size.{square_is}
use Rattle.whole.proofs.Products.{zero_of_square}
use Rattle.whole.proofs.Cancel.{other_factor_zero}
use Rattle.legendre.specs.Equation.{form}

pub zero_square_term : (m : ℕ) (x : ℤ) → 0 < m → m * (nat_abs x * nat_abs x) ≡ 0 → x ≡ pos 0
zero_square_term m x h e =
    zero_of_square x (other_factor_zero {a = pos m} (λ z. ne_of_gt h (ap nat_abs z)) (ap (λ (n : ℤ). pos m *ℤ n) (square_is x) ∙ ap pos e))

pub form_of_sizes : (p g q x y w : ℤ) → form p g q (pos (nat_abs x)) (pos (nat_abs y)) (pos (nat_abs w)) ≡ form p g q x y w
form_of_sizes p g q x y w = rw (square_is x, square_is y, square_is w)
