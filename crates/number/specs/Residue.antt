-- Squares modulo n: m is one if some whole r has n ∣ r² − m. The least root is looked for from 0 up. Assumes nothing.
use Rattle.std.specs.Prelude.{Bool, ℕ, ℤ, pos, nat_abs, ◌*ℤ◌, ◌-ℤ◌, ltb}
use Rattle.number.specs.Divides.{◌∣ℤ◌, divides}
use Rattle.number.specs.Least.{least}

pub record SquareModulo (n : ℕ) (m : ℤ) : Type 0 where
  pub root : ℤ
  pub is_root : pos n ∣ℤ (root *ℤ root -ℤ m)

-- the least r below n with n ∣ r² − m, or n
unfoldable pub least_root_of : ℕ → ℤ → ℕ
least_root_of n m = least (λ r. divides n (nat_abs (pos r *ℤ pos r -ℤ m))) n

unfoldable pub is_square_modulo : ℕ → ℤ → Bool
is_square_modulo n m = ltb (least_root_of n m) n
