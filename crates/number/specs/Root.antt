-- The least root of a number modulo a prime, or nothing where there is none; what the functions that look for it ask of the
-- prime, and what their products leave. Assumes nothing.
use Rattle.std.specs.Prelude.{◌≡◌, Bool, true, false, Option, Some, None, ℕ, ◌%◌, ◌^◌, ◌<◌, ℤ}
use Rattle.number.specs.Prime.{Prime}
use Rattle.number.specs.Residue.{least_root_of, is_square_modulo}

abbrev pub least_if : Bool → ℕ → Option ℕ
least_if true r = Some r
least_if false r = None

unfoldable pub least_root : ℕ → ℤ → Option ℕ
least_root l m = least_if (is_square_modulo l m) (least_root_of l m)

-- what is left of x modulo n
pub record IsRemainder (n x r : ℕ) : Type 0 where
  pub value : r ≡ x % n
  pub below : r < n

-- a prime whose residues' products fit 64 bits
pub record PrimeModulus (l : ℕ) : Type 0 where
  pub prime : Prime l
  pub small : l < 2 ^ 32
