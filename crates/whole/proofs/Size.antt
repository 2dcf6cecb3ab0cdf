-- The size of a whole number, `nat_abs`: of a negation, a sum, a product, a quotient, a remainder; where it is 0; and a square is
-- that of the size. A product is, at each pair of signs, the product of the sizes with a sign; a sum of two signs is a difference
-- of sizes. Assumes nothing.
use mathlib.Core.Path.{◌≡◌, refl, ap}
use mathlib.Core.Logic.{◌≢◌}
use mathlib.Core.Bool.{Bool, true, false, cond}
use Prim.Native.Nat.{ℕ, zero, suc, ◌+◌, ◌*◌, ◌-◌, ◌/◌, ◌%◌, ◌≤◌, ◌<◌}
use native.Mathlib.Nat as Nat
use native.Mathlib.Omega.{arith}
use lib.Dec.{T, ltb, ltb→lt}
use lib.IntN.{ℤ, pos, negsuc, neg_ℤ, nat_abs, sub_ℕ, ◌+ℤ◌, ◌*ℤ◌}
use lib.Signed.{mag, quot_z, rem_z}

-- ---- a number and its size

pub nat_abs_neg : (a : ℤ) → nat_abs (neg_ℤ a) ≡ nat_abs a
nat_abs_neg (pos zero) = refl
nat_abs_neg (pos (suc n)) = refl
nat_abs_neg (negsuc n) = refl

pub nat_abs_zero : (a : ℤ) → nat_abs a ≡ 0 → a ≡ pos 0
nat_abs_zero (pos n) e = ap pos e
nat_abs_zero (negsuc n) e = absurd (Nat.suc-ne-zero n e)

pub nat_abs_positive : {a : ℤ} → a ≢ pos 0 → 0 < nat_abs a
nat_abs_positive {a} f = Nat.pos_of_ne-zero (λ e. f (nat_abs_zero a e))

-- the range of a signed type is a bound on `mag`, n both for n and for −(n + 1)
pub mag-≤-nat_abs : (a : ℤ) → mag a ≤ nat_abs a
mag-≤-nat_abs (pos n) = Nat.le_refl n
mag-≤-nat_abs (negsuc n) = Nat.le-suc n

-- ---- sums

-- a difference of naturals is no longer than their sum
nat_abs_sub : (a b : ℕ) → nat_abs (sub_ℕ a b) ≤ a + b
nat_abs_sub a b = by_test (ltb a b) (ltb→lt a b)
  where
    by_test : (t : Bool) → (T t → a < b) → nat_abs (cond t (negsuc (b - suc a)) (pos (a - b))) ≤ a + b
    by_test true f = let h : a < b = f tt in omega arith
    by_test false f = omega arith

pub nat_abs-+ : (a b : ℤ) → nat_abs (a +ℤ b) ≤ nat_abs a + nat_abs b
nat_abs-+ (pos a) (pos b) = Nat.le_refl (a + b)
nat_abs-+ (pos a) (negsuc b) = nat_abs_sub a (suc b)
nat_abs-+ (negsuc a) (pos b) = let h : nat_abs (sub_ℕ b (suc a)) ≤ b + suc a = nat_abs_sub b (suc a) in omega arith
nat_abs-+ (negsuc a) (negsuc b) = omega arith

-- ---- products and quotients

pub nat_abs-* : (a b : ℤ) → nat_abs (a *ℤ b) ≡ nat_abs a * nat_abs b
nat_abs-* (pos a) (pos b) = refl
nat_abs-* (pos a) (negsuc b) = nat_abs_neg (pos (a * suc b))
nat_abs-* (negsuc a) (pos b) = nat_abs_neg (pos (suc a * b))
nat_abs-* (negsuc a) (negsuc b) = refl

pub nat_abs_quot : (a b : ℤ) → nat_abs (quot_z a b) ≡ nat_abs a / nat_abs b
nat_abs_quot (pos a) (pos b) = refl
nat_abs_quot (pos a) (negsuc b) = nat_abs_neg (pos (a / suc b))
nat_abs_quot (negsuc a) (pos b) = nat_abs_neg (pos (suc a / b))
nat_abs_quot (negsuc a) (negsuc b) = refl

pub quotient_size : (a b : ℤ) → nat_abs (quot_z a b) ≤ nat_abs a
quotient_size a b = Nat.le_trans (Nat.le_of_eq (nat_abs_quot a b)) (Nat.div-le_self (nat_abs a) (nat_abs b))

pub nat_abs_rem : (a b : ℤ) → nat_abs (rem_z a b) ≡ nat_abs a % nat_abs b
nat_abs_rem (pos a) b = refl
nat_abs_rem (negsuc a) b = nat_abs_neg (pos (suc a % nat_abs b))

-- ---- squares

pub square_is : (a : ℤ) → a *ℤ a ≡ pos (nat_abs a * nat_abs a)
square_is (pos n) = refl
square_is (negsuc n) = refl
