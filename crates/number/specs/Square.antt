-- Integer roots and squares: the root of n is the least r with n below (r + 1)². Assumes nothing.
use Rattle.std.specs.Prelude.{Bool, ℕ, suc, ◌*◌, ltb, eqb}
use Rattle.number.specs.Least.{least}

unfoldable pub root_of : ℕ → ℕ
root_of n = least (λ r. ltb n (suc r * suc r)) n

unfoldable pub is_square : ℕ → Bool
is_square n = eqb (root_of n * root_of n) n
