-- Squarefree numbers, and the split of n ≠ 0 into d·s² with d squarefree (sign kept): s is the greatest number whose square
-- divides n. Assumes nothing.
use Rattle.std.specs.Prelude.{◌≡◌, ℕ, ◌*◌, ℤ, pos, nat_abs}
use Rattle.std.specs.Int.{◌∣◌}
use Rattle.std.specs.Int.Signed.{quot_z}
use Rattle.number.specs.Divides.{divides}
use Rattle.number.specs.Least.{greatest}
use Rattle.number.specs.Square.{root_of}

-- no square above 1 divides n; 0 is not squarefree
pub record Squarefree (n : ℤ) : Type 0 where
  pub no_square : (d : ℕ) → d * d ∣ nat_abs n → d ≡ 1

-- the s of n = d·s²; 0 for 0
unfoldable pub square_part : ℤ → ℕ
square_part n = greatest (λ s. divides (s * s) (nat_abs n)) (root_of (nat_abs n))

-- the d of n = d·s²; 0 for 0
unfoldable pub free_part : ℤ → ℤ
free_part n = quot_z n (pos (square_part n * square_part n))
