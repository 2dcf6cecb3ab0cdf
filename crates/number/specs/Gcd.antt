-- The greatest common divisor by Euclid's repeated remainder, each call on a smaller second number. Assumes nothing.
use Rattle.std.specs.Prelude.{◌≡◌, ℕ, zero, suc, ◌%◌, ℤ, nat_abs}

-- at most n remainders
unfoldable pub euclid : ℕ → ℕ → ℕ → ℕ
euclid zero a b = a
euclid (suc n) a zero = a
euclid (suc n) a (suc b) = euclid n (suc b) (a % suc b)

-- the second number falls at each call, so b + 1 calls are enough
unfoldable pub gcd_of : ℕ → ℕ → ℕ
gcd_of a b = euclid (suc b) a b

-- no common factor
pub record Coprime (a b : ℤ) : Type 0 where
  pub gcd_is_one : gcd_of (nat_abs a) (nat_abs b) ≡ 1
