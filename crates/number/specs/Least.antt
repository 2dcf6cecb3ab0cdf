-- Least and greatest by search, for every "least" of the paper: the least number below n at which a test holds, or n;
-- and the greatest number from n down at which it holds, or 0. Assumes nothing.
use Rattle.std.specs.Prelude.{ℕ, zero, suc, Bool, true, false}

-- the first number from i on at which the test holds, of n numbers tried; i + n where it holds at none
unfoldable pub first_from : (ℕ → Bool) → ℕ → ℕ → ℕ
first_from test zero i = i
first_from test (suc n) i = elim (test i) [ true ↦ i | false ↦ first_from test n (suc i) ]

-- the least number below n at which the test holds, or n
unfoldable pub least : (ℕ → Bool) → ℕ → ℕ
least test n = first_from test n 0

-- the greatest number from 1 to n at which the test holds, or 0
unfoldable pub greatest : (ℕ → Bool) → ℕ → ℕ
greatest test zero = 0
greatest test (suc n) = elim (test (suc n)) [ true ↦ suc n | false ↦ greatest test n ]
