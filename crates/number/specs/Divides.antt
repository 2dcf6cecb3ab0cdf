-- Divisibility of whole numbers: a divides b if b is a multiple of a. On natural numbers it is the library's `◌∣◌`, and `divides`
-- is its test. Assumes nothing.
use Rattle.std.specs.Prelude.{◌≡◌, Bool, ℕ, ◌%◌, eqb, ℤ, ◌*ℤ◌}

infix 50 ◌∣ℤ◌
pub record ◌∣ℤ◌ (a b : ℤ) : Type 0 where
  pub quotient : ℤ
  pub multiple : b ≡ quotient *ℤ a

-- no remainder is left (0 divides 0 alone)
unfoldable pub divides : ℕ → ℕ → Bool
divides d n = eqb (n % d) 0
