-- Primes: at least 2, and no divisor strictly between 1 and the number; with the test that tries every divisor. Assumes nothing.
use Rattle.std.specs.Prelude.{◌≡◌, ◌⊎◌, Bool, ◌&&◌, ℕ, ◌≤◌, leb, eqb}
use Rattle.std.specs.Int.{◌∣◌}
use Rattle.number.specs.Divides.{divides}
use Rattle.number.specs.Least.{least}

pub record Prime (l : ℕ) : Type 0 where
  pub at_least_two : 2 ≤ l
  pub only_divisors : (d : ℕ) → d ∣ l → (d ≡ 1) ⊎ (d ≡ l)

-- the least divisor of n from 2 up, or n
unfoldable pub least_divisor : ℕ → ℕ
least_divisor n = least (λ d. leb 2 d && divides d n) n

unfoldable pub is_prime : ℕ → Bool
is_prime l = leb 2 l && eqb (least_divisor l) l
