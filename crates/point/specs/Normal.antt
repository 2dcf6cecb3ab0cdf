-- Normal form of points and directions: no common factor, and the first nonzero of z, x, y is positive. A direction (u, v) is the
-- point (u, v, 0) at infinity. Assumes nothing.
use Rattle.std.specs.Prelude.{◌≡◌, ◌&&◌, cond, ℕ, zero, suc, ◌-◌, ◌^◌, ℤ, pos, negsuc, neg_ℤ, nat_abs, ◌<ℤ◌}
use Rattle.std.specs.Int.Signed.{quot_z}
use Rattle.number.specs.Gcd.{gcd_of}
use Rattle.point.specs.Paper.{within}
use Rattle.point.specs.declared.Point.{Point}
use Rattle.point.specs.declared.Direction.{Direction}

-- gcd(x, y, z)
unfoldable pub common_factor : Point → ℕ
common_factor p = gcd_of (gcd_of (nat_abs p.x) (nat_abs p.y)) (nat_abs p.z)

-- m, or n where m is 0
unfoldable pub or_else : ℤ → ℤ → ℤ
or_else (pos zero) n = n
or_else (pos (suc m)) n = pos (suc m)
or_else (negsuc m) n = negsuc m

-- the first nonzero of z, x, y
unfoldable pub leading : Point → ℤ
leading p = or_else p.z (or_else p.x p.y)

-- n with the sign of m
unfoldable pub signed : ℤ → ℕ → ℤ
signed (pos m) n = pos n
signed (negsuc m) n = neg_ℤ (pos n)

-- the three numbers divided by n
unfoldable pub over : ℤ → Point → Point
over n p = record { x = quot_z p.x n; y = quot_z p.y n; z = quot_z p.z n }

-- (0, 0, 0) stays
unfoldable pub normal : Point → Point
normal p = over (signed (leading p) (common_factor p)) p

-- the largest 64-bit number; −2⁶³, which has no 64-bit negation, is larger in size
abbrev pub largest : ℕ
largest = 2 ^ 63 - 1

-- what the machine gives: (0, 0, 0) where some number is larger in size
unfoldable pub normal_within : Point → Point
normal_within p =
    cond (within largest p.x && within largest p.y && within largest p.z) (normal p)
    (record { x = pos 0; y = pos 0; z = pos 0 })

pub record NormalForm (p : Point) : Type 0 where
  pub no_common_factor : common_factor p ≡ 1
  pub positive : pos 0 <ℤ leading p

-- T = (u, v, 0)
unfoldable pub at_infinity : Direction → Point
at_infinity t = record { x = t.u; y = t.v; z = pos 0 }

unfoldable pub normal_direction : Direction → Direction
normal_direction t = record { u = (normal (at_infinity t)).x; v = (normal (at_infinity t)).y }

unfoldable pub normal_direction_within : Direction → Direction
normal_direction_within t = record { u = (normal_within (at_infinity t)).x; v = (normal_within (at_infinity t)).y }

abbrev pub NormalDirection : Direction → Type 0
NormalDirection t = NormalForm (at_infinity t)
