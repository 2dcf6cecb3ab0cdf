-- Newton's step towards the root of n, from g to half of g + n / g. The mean of two numbers is at least the root of their product, so
-- a step never passes below the root; and 2ᵉ, with e half of n's length in bits rounded up, is a first guess above it.
-- Assumes nothing.
use mathlib.Core.Path.{◌≡◌, ◌∙◌, subst}
use Prim.Native.Nat.{ℕ, suc, ◌+◌, ◌-◌, ◌*◌, ◌/◌, ◌%◌, ◌^◌, ◌≤◌, ◌<◌}
use native.Mathlib.Nat.{le_dest, add-mul, mul-add, mul_comm, one-mul, mul-le-mul_right, lt-suc_self, div-lt_iff_lt-mul, mod-eq_of_lt}
use native.Mathlib.Decide.{dec_le}
use native.Mathlib.Omega.{arith}
use lib.Pow.{pow_mono, pow-lt, pow-add}
use lib.Count.{count_leading_zeros, leading_length}

-- 2ab ≤ a² + b², for b = a + d and then for all
product_below_squares_from : (a d : ℕ) → 2 * (a * (a + d)) ≤ a * a + (a + d) * (a + d)
product_below_squares_from a d = omega (arith, mul-add a a d, add-mul a d (a + d), mul-add d a d, mul_comm d a)

product_below_squares : (a b : ℕ) → 2 * (a * b) ≤ a * a + b * b
product_below_squares a b = either (dec_le a b)
  where
    ordered : {x y : ℕ} → x ≤ y → 2 * (x * y) ≤ x * x + y * y
    ordered {x} h = subst (λ (z : ℕ). 2 * (x * z) ≤ x * x + z * z) (le_dest h).1 (product_below_squares_from x (le_dest h).0)

    either : Dec (a ≤ b) → 2 * (a * b) ≤ a * a + b * b
    either (yes h) = ordered h
    either (no f) = omega (arith, ordered {x = b} {y = a} (omega arith), mul_comm a b)

-- with q = n / g and m the next guess plus 1: n < (q + 1)g, and g + q + 1 ≤ 2m, so g² + n < (g + q + 1)g ≤ 2mg ≤ m² + g²
pub step_not_below : (n g : ℕ) → 0 < g → n < suc ((g + n / g) / 2) * suc ((g + n / g) / 2)
step_not_below n g positive =
    let q : ℕ = n / g in
    let m : ℕ = suc ((g + n / g) / 2) in
    let next_multiple : n < suc q * g = (div-lt_iff_lt-mul positive).0 (lt-suc_self q) in
    let mean : (g + suc q) * g ≤ (m + m) * g = mul-le-mul_right g (omega arith) in
    omega (arith, add-mul g (suc q) g, add-mul m m g, product_below_squares m g)

-- half of the length of n < 2⁶⁴, rounded up
abbrev pub half_length : ℕ → ℕ
half_length n = (65 - count_leading_zeros 64 n) / 2

pub power_above : (n : ℕ) → n < 2 ^ 64 → n < 2 ^ half_length n * 2 ^ half_length n
power_above n h =
    let (m, zeros-and-length, below_power, _) = leading_length 64 n h in
    let e : ℕ = half_length n in
    let twice : m ≤ e + e = omega arith in
    omega (arith, pow_mono twice, pow-add 2 e e)

-- the machine's shift by less than the word's 64 bits loses nothing
pub shifted_one : (e : ℕ) → e < 64 → (1 * 2 ^ e) % 2 ^ 64 ≡ 2 ^ e
shifted_one e h = mod-eq_of_lt (omega (arith, pow-lt h, one-mul (2 ^ e))) ∙ one-mul (2 ^ e)
