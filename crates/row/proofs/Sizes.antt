-- A row has at most 40 bytes: solve's points are within the limit, so that their numbers have nine digits at most, its
-- primes have nine digits at most, and there are no refusals above 10 here. Assumes nothing.
use mathlib.Core.Path.{◌≡◌, refl}
use Rattle.std.specs.Prelude.{Option, Some, None}
use Prim.Native.Nat.{suc, ◌^◌, ◌≤◌, ◌<◌}
use native.Mathlib.Nat.{lt_of_le_of_lt}
use native.Mathlib.Omega.{arith}
use lib.Dec.{lit<}
use lib.IntN.{ℤ, pos, negsuc, nat_abs}
use lib.ListN.{length, length-append}
use Rattle.point.specs.Paper.{Verdict, point, none_by_sign, none_by_prime, refusal, point_limit}
use Rattle.point.specs.Sizes.{PointWithin}
use Rattle.conic.specs.declared.conic.Conic.{Conic}
use Rattle.solve.specs.Solve.{solve_of}
use Rattle.solve.proofs.Answers.{refusal_at_most, point_fits, prime_below}
use Rattle.row_reader.specs.Reading.{read_row}
use Rattle.row.specs.Writing.{decimal, signed_decimal, row_text}
use Rattle.row.specs.Row.{verdict_on, row_of, buffer_limit}
use Rattle.row.specs.Theorems.{RowsFit}
use Rattle.row.proofs.Decimal.{decimal_length}

-- what a row has room for
abbrev Small : Verdict → Type 0
Small (point p) = PointWithin point_limit p
Small none_by_sign = Unit {0}
Small (none_by_prime l) = l < 10 ^ 9
Small (refusal n) = n < 10 ^ 2

signed_length : (n : ℤ) → nat_abs n ≤ point_limit → length (signed_decimal n) ≤ 10
unfolding signed_decimal
signed_length (pos n) h = let nine : length (decimal n) ≤ 9 = decimal_length n 8 (omega arith) in omega arith
signed_length (negsuc n) h = let nine : length (decimal (suc n)) ≤ 9 = decimal_length (suc n) 8 (omega arith) in omega arith

row_length : (v : Verdict) → Small v → length (row_text v) ≤ buffer_limit
unfolding row_text
row_length (point p) small =
    simp length-append
    (omega (arith, signed_length p.x small.x_within, signed_length p.y small.y_within, signed_length p.z small.z_within))
row_length none_by_sign h = omega arith
row_length (none_by_prime l) h = simp length-append (omega (arith, decimal_length l 8 h))
row_length (refusal n) h = simp length-append (omega (arith, decimal_length n 1 h))

-- ---- what solve gives

solve_small : (h : Conic) (v : Verdict) → solve_of h ≡ v → Small v
solve_small h (point p) e = point_fits h p e
solve_small h none_by_sign e = tt
solve_small h (none_by_prime l) e = prime_below h l e
solve_small h (refusal n) e = lt_of_le_of_lt (refusal_at_most h n e) (lit< tt)

verdict_small : (o : Option Conic) → Small (verdict_on o)
unfolding verdict_on
verdict_small None = lit< tt
verdict_small (Some h) = solve_small h (solve_of h) refl

pub rows_fit : RowsFit
unfolding RowsFit row_of
rows_fit text = row_length (verdict_on (read_row text)) (verdict_small (read_row text))
