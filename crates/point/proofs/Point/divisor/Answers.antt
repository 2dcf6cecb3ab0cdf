-- `point::Point::divisor` meets its contract: a common factor is at most the largest of the numbers, so it and its negation
-- fit. Assumes nothing.
use mathlib.Core.Path.{◌≡◌, refl, ap₂, ◌∙◌}
use Prim.Native.Nat.{ℕ, zero, suc, ◌≤◌}
use native.Mathlib.Nat.{le_of_dvd, zero-lt-suc, le_of_eq, le_trans}
use lib.IntN.{ℤ, pos, negsuc, neg_ℤ, nat_abs, ◌-ℤ◌, +ℤ_idl}
use lib.Signed.{◌<ℤ◌, ◌≤ℤ◌, clash_ℤ}
use mir.Syntax.{w64}
use Rattle.whole.proofs.Order.{zero-≤ℤ_pos, negsuc-<ℤ_pos}
use Rattle.whole.proofs.Signed.{casts, ranges, fits, reads}
use Rattle.whole.proofs.SignedTests.{tests, tells, lt_z_true, lt_z_false}
use Rattle.number.specs.Gcd.{gcd_of}
use Rattle.number.proofs.Gcd.{gcd_zero, gcd_divides_right}
use Rattle.point.specs.Normal.{common_factor, signed, largest}
use Rattle.point.specs.Sizes.{PointWithin}
use Rattle.point.specs.declared.Point.{Point}
use Rattle.point.proofs.Point.divisor.Goals.{After-common_factor-factor}
use Rattle.point.proofs.Point.divisor.Goals as goal

gcd_at_most : {n a : ℕ} (b : ℕ) → a ≤ n → b ≤ n → gcd_of a b ≤ n
gcd_at_most {a} zero h k = le_trans (le_of_eq (gcd_zero a)) h
gcd_at_most {a} (suc b) h k = le_trans (le_of_dvd (zero-lt-suc b) (gcd_divides_right a (suc b))) k

factor_at_most : {n : ℕ} (p : Point) → PointWithin n p → common_factor p ≤ n
unfolding common_factor
factor_at_most p h = gcd_at_most (nat_abs p.z) (gcd_at_most (nat_abs p.y) h.x_within h.y_within) h.z_within

negative_sign : (m : ℤ) (n : ℕ) → m <ℤ pos 0 → pos 0 -ℤ pos n ≡ signed m n
unfolding signed
negative_sign (pos m) n h = clash_ℤ h (zero-≤ℤ_pos m)
negative_sign (negsuc m) n h = +ℤ_idl (neg_ℤ (pos n))

other_sign : (m : ℤ) (n : ℕ) → pos 0 ≤ℤ m → pos n ≡ signed m n
unfolding signed
other_sign (pos m) n h = refl
other_sign (negsuc m) n h = clash_ℤ (negsuc-<ℤ_pos m 0) h

result_at_most : (c : After-common_factor-factor) → c.common_factor-factor.result ≤ largest
result_at_most c = rw c.common_factor-factor.ensures (factor_at_most _ c.requires)

pub overflow_cast-factor : goal.overflow_cast-factor
overflow_cast-factor c = let small = result_at_most c in fits w64 (search casts depth 60 fits 9999) tt

pub overflow_sub-result : goal.overflow_sub-result
overflow_sub-result c = let small = result_at_most c.before.before in fits w64 (search casts depth 60 fits 9999) tt

pub returns-then-leading-lt0 : goal.returns-then-leading-lt0
returns-then-leading-lt0 c =
    let small = result_at_most c.before.before in
    reads (search casts depth 60 fits 9999) tt
    (negative_sign c.leading.result c.common_factor-factor.result (lt_z_true (tells (search (ranges, tests) depth 60 fits 9999) tt c.if-leading-lt0.true))
    ∙ ap₂ signed c.leading.ensures c.common_factor-factor.ensures)

pub returns-else-leading-lt0 : goal.returns-else-leading-lt0
returns-else-leading-lt0 c =
    let small = result_at_most c.before.before in
    reads (search casts depth 60 fits 9999) tt
    (other_sign c.leading.result c.common_factor-factor.result (lt_z_false (tells (search (ranges, tests) depth 60 fits 9999) tt c.if-leading-lt0.false))
    ∙ ap₂ signed c.leading.ensures c.common_factor-factor.ensures)
