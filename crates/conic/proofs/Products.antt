-- Three products that fit: where the factors' sizes are at most m and n and 3mn is below 2⁶³, and then the partial sums fit too.
-- Assumes nothing.
use Prim.Native.Nat.{ℕ, ◌+◌, ◌*◌, ◌^◌, ◌≤◌, ◌<◌}
use native.Mathlib.Nat.{mul-le-mul, lt_of_le_of_lt}
use native.Mathlib.Omega.{arith}
use lib.Dec.{T, ltb, ltb→lt}
use lib.IntN.{ℤ, nat_abs, ◌+ℤ◌, ◌*ℤ◌}
use mir.Syntax.{w64}
use mir.Val.{SFits}
use Rattle.whole.proofs.Size.{nat_abs-+, nat_abs-*, mag-≤-nat_abs}
use Rattle.conic.specs.Sizes.{ProductsFit}

pub products_fit :
    (m n : ℕ) {a b c x y z : ℤ} →
    nat_abs a ≤ m → nat_abs b ≤ m → nat_abs c ≤ m → nat_abs x ≤ n → nat_abs y ≤ n → nat_abs z ≤ n → T (ltb (3 * (m * n)) (2 ^ 63)) →
    ProductsFit a b c x y z
products_fit m n a b c x y z t =
    record { room = omega (arith, mul-le-mul a x, mul-le-mul b y, mul-le-mul c z, ltb→lt (3 * (m * n)) (2 ^ 63) t) }

fits_by_size : {m : ℤ} → nat_abs m < 2 ^ 63 → SFits w64 m
fits_by_size {m} h = record { sfits = lt_of_le_of_lt (mag-≤-nat_abs m) h }

module _ {a b c x y z : ℤ} (h : ProductsFit a b c x y z) where
  pub first_fits : SFits w64 (a *ℤ x)
  first_fits = fits_by_size (omega (arith, nat_abs-* a x, h.room))

  pub second_fits : SFits w64 (b *ℤ y)
  second_fits = fits_by_size (omega (arith, nat_abs-* b y, h.room))

  pub third_fits : SFits w64 (c *ℤ z)
  third_fits = fits_by_size (omega (arith, nat_abs-* c z, h.room))

  two_at_most : nat_abs (a *ℤ x +ℤ b *ℤ y) ≤ nat_abs a * nat_abs x + nat_abs b * nat_abs y
  two_at_most = omega (arith, nat_abs-+ (a *ℤ x) (b *ℤ y), nat_abs-* a x, nat_abs-* b y)

  pub two_fit : SFits w64 (a *ℤ x +ℤ b *ℤ y)
  two_fit = fits_by_size (omega (arith, two_at_most, h.room))

  pub three_fit : SFits w64 (a *ℤ x +ℤ b *ℤ y +ℤ c *ℤ z)
  three_fit = fits_by_size (omega (arith, nat_abs-+ (a *ℤ x +ℤ b *ℤ y) (c *ℤ z), two_at_most, nat_abs-* c z, h.room))
