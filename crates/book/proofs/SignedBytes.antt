-- Signed numbers as unsigned ones: the four lowest bytes of one that fits are those of 64 bits, and the upper half of a range is read back
-- as the negative ones. Assumes nothing.
use mathlib.Core.Logic.{⊎_elim}
use mathlib.Core.List.{◌∷◌}
use mathlib.Core.Path.{◌≡◌, refl, ap, ap₂, ◌∙◌}
use Prim.Native.Nat.{ℕ, zero, suc, ◌+◌, ◌*◌, ◌-◌, ◌/◌, ◌%◌, ◌^◌, ◌≤◌, ◌<◌}
use native.Mathlib.Nat.{add-mul-mod_self_left, add-mul-div_left, mul_assoc, pow-succ'}
use native.Mathlib.Omega.{arith}
use lib.Dec.{lit<, ltb}
use lib.IntN.{ℤ, pos, negsuc, nat_abs}
use mir.Syntax.{w64}
use mir.Val.{of_z}
use borrow.Author.Tests.{lt-ltb, le-ltb, ltb-true, ltb-false}
use Rattle.number.proofs.Least.{true_or_false}
use Rattle.point.specs.Paper.{point_limit}
use Rattle.book.specs.Bytes.{bytes, unsigned, signed, signed_below}

bytes_more : (n m q : ℕ) → bytes n (m + 256 ^ n * q) ≡ bytes n m
unfolding bytes
bytes_more zero m q = refl
bytes_more (suc n) m q =
    let more : m + 256 ^ suc n * q ≡ m + 256 * (256 ^ n * q) =
    ap (λ (k : ℕ). m + k * q) (pow-succ' 256 n) ∙ ap (λ (k : ℕ). m + k) (mul_assoc 256 (256 ^ n) q) in
    ap₂ ◌∷◌
    (ap (λ (k : ℕ). k % 256) more ∙ add-mul-mod_self_left m 256 (256 ^ n * q))
    (ap (bytes n) (ap (λ (k : ℕ). k / 256) more ∙ add-mul-div_left m (256 ^ n * q) (lit< tt)) ∙ bytes_more n (m / 256) q)

-- the lowest four bytes of 64 bits
pub lowest_four : (z : ℤ) → nat_abs z ≤ point_limit → bytes 4 (of_z w64 z) ≡ bytes 4 (unsigned 4 z)
unfolding unsigned
lowest_four (pos m) small = refl
lowest_four (negsuc k) small =
    let own : of_z w64 (negsuc k) ≡ 256 ^ 4 - (k + 1) + 256 ^ 4 * 4_294_967_295 = omega arith in
    ap (bytes 4) own ∙ bytes_more 4 (256 ^ 4 - (k + 1)) 4_294_967_295

-- the numbers of a range, read
lower_half : (range m : ℕ) → 2 * m < range → signed_below range m ≡ pos m
unfolding signed_below
lower_half range m h = rw (lt-ltb (2 * m) range h)

upper_half : (range m k : ℕ) → range ≤ 2 * m → m + suc k ≡ range → signed_below range m ≡ negsuc k
unfolding signed_below
upper_half zero m k h e = absurd (omega arith)
upper_half (suc range) m k h e =
    let below : m < suc range = omega arith in
    let rest : suc range - suc m ≡ k = omega arith in
    rw (le-ltb (2 * m) (suc range) h, lt-ltb m (suc range) below) (ap negsuc rest)

pub unsigned_signed : (n m : ℕ) → m < 256 ^ n → unsigned n (signed n m) ≡ m
unfolding unsigned
unsigned_signed n m h =
    ⊎_elim
    (λ lower. ap (unsigned n) (lower_half (256 ^ n) m (ltb-true (2 * m) (256 ^ n) lower)))
    (λ upper.
    let k : ℕ = 256 ^ n - suc m in
    let sum : m + suc k ≡ 256 ^ n = omega arith in
    let back : 256 ^ n - (k + 1) ≡ m = omega arith in
    ap (unsigned n) (upper_half (256 ^ n) m k (ltb-false (2 * m) (256 ^ n) upper) sum) ∙ back)
    (true_or_false (ltb (2 * m) (256 ^ n)))

pub signed_unsigned : (n : ℕ) (z : ℤ) → 2 * nat_abs z < 256 ^ n → signed n (unsigned n z) ≡ z
unfolding unsigned
signed_unsigned n (pos m) h = lower_half (256 ^ n) m h
signed_unsigned n (negsuc k) h = upper_half (256 ^ n) (256 ^ n - (k + 1)) k (omega arith) (omega arith)

pub unsigned_below : (n : ℕ) (z : ℤ) → 2 * nat_abs z < 256 ^ n → unsigned n z < 256 ^ n
unfolding unsigned
unsigned_below n (pos m) h = omega arith
unsigned_below n (negsuc k) h = omega arith
