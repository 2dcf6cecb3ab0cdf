-- The remainder of a whole number modulo n, from 0 up to n − 1: that of −(a + 1) is as far below n − 1 as that of a is above 0.
-- Assumes nothing.
use Rattle.std.specs.Prelude.{ℕ, suc, ◌-◌, ◌%◌, ℤ, pos, negsuc}

unfoldable pub remainder_of : ℕ → ℤ → ℕ
remainder_of n (pos a) = a % n
remainder_of n (negsuc a) = n - suc (a % n)
