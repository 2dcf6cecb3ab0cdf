-- Little-endian numbers in bytes: unsigned ones of two and four bytes, signed ones of one and four. Assumes nothing.
use Rattle.std.specs.Prelude.{cond, List, [], ◌∷◌, ℕ, zero, suc, ◌+◌, ◌-◌, ◌*◌, ◌^◌, ◌/◌, ◌%◌, ltb, ℤ, pos, negsuc, ◌-ℤ◌, get_or}

-- the n lowest bytes of m, the lowest first
unfoldable pub bytes : ℕ → ℕ → List ℕ
bytes zero m = []
bytes (suc n) m = (m % 256) ∷ bytes n (m / 256)

-- the number of n bytes from a place on
unfoldable pub number_at : ℕ → List ℕ → ℕ → ℕ
number_at zero book at = 0
number_at (suc n) book at = get_or book at 0 + 256 * number_at n book (at + 1)

-- a signed number as an unsigned one of n bytes: a negative one has 256ⁿ added
unfoldable pub unsigned : ℕ → ℤ → ℕ
unsigned n (pos m) = m
unsigned n (negsuc m) = 256 ^ n - (m + 1)

-- and back: of the numbers below a range the upper half stands for the negative ones
unfoldable pub signed_below : ℕ → ℕ → ℤ
signed_below range m = cond (ltb (2 * m) range) (pos m) (pos m -ℤ pos range)

-- n bytes have the range 256ⁿ
abbrev pub signed : ℕ → ℕ → ℤ
signed n m = signed_below (256 ^ n) m
