-- The order of the whole numbers and their products: products of numbers that are not negative, both sides times a number,
-- squares, no zero divisors, cancelling a factor. At each pair of signs a product is a product of naturals with a sign.
-- Assumes nothing.
use mathlib.Core.Path.{◌≡◌, refl, sym, ap, ◌∙◌, subst, subst₂}
use mathlib.Core.Logic.{◌≢◌, ◌⊎◌, inl, inr, ⊎_elim}
use Prim.Native.Nat.{ℕ, zero, suc, ◌*◌, ◌<◌}
use native.Mathlib.Nat as Nat
use native.Mathlib.Omega.{arith}
use lib.IntN.{ℤ, pos, negsuc, neg_ℤ, nat_abs, ◌*ℤ◌, neg_ℤ-neg_ℤ, *ℤ-zero}
use lib.Signed.{◌≤ℤ◌, ◌<ℤ◌, clash_ℤ}
use Rattle.whole.proofs.Laws.{negℤ-*ℤ}
use Rattle.whole.proofs.Order.{≤ℤ-<ℤ_trans, ≤ℤ_of-<ℤ, <ℤ_by_not, <ℤ_of-≤ℤ-≢, ≢-of-<ℤ, pos-≤, ≤-of_pos, zero-≤ℤ_pos, negsuc-<ℤ_pos, pos_nat_abs_of-≤ℤ}
use Rattle.whole.proofs.Size.{nat_abs-*, nat_abs_neg, nat_abs_zero}
use Rattle.whole.proofs.Sums.{negℤ-≤ℤ}

-- ---- numbers that are not negative

pub zero-≤ℤ-* : {a b : ℤ} → pos 0 ≤ℤ a → pos 0 ≤ℤ b → pos 0 ≤ℤ (a *ℤ b)
zero-≤ℤ-* {a} {b} h k = subst₂ (λ (x y : ℤ). pos 0 ≤ℤ (x *ℤ y)) (pos_nat_abs_of-≤ℤ h) (pos_nat_abs_of-≤ℤ k) (zero-≤ℤ_pos (nat_abs a * nat_abs b))

pub zero-≤ℤ_square : (a : ℤ) → pos 0 ≤ℤ (a *ℤ a)
zero-≤ℤ_square (pos n) = zero-≤ℤ_pos (n * n)
zero-≤ℤ_square (negsuc n) = zero-≤ℤ_pos (suc n * suc n)

-- ---- no zero divisors

factor_zero : (m n : ℕ) → m * n ≡ 0 → (m ≡ 0) ⊎ (n ≡ 0)
factor_zero zero n e = inl refl
factor_zero (suc m) zero e = inr refl
factor_zero (suc m) (suc n) e = absurd (none m n e)
  where
    none : (m n : ℕ) → suc m * suc n ≡ 0 → ⊥
    none m n e = omega arith

pub zero_factor : (a b : ℤ) → a *ℤ b ≡ pos 0 → (a ≡ pos 0) ⊎ (b ≡ pos 0)
zero_factor a b e =
    ⊎_elim (λ p. inl (nat_abs_zero a p)) (λ p. inr (nat_abs_zero b p)) (factor_zero (nat_abs a) (nat_abs b) (sym (nat_abs-* a b) ∙ ap nat_abs e))

pub zero_of_square : (a : ℤ) → a *ℤ a ≡ pos 0 → a ≡ pos 0
zero_of_square a e = ⊎_elim (λ p. p) (λ p. p) (zero_factor a a e)

pub zero-<ℤ_square : {a : ℤ} → a ≢ pos 0 → pos 0 <ℤ (a *ℤ a)
zero-<ℤ_square {a} f = <ℤ_of-≤ℤ-≢ (zero-≤ℤ_square a) (λ e. f (zero_of_square a (sym e)))

-- ---- both sides times a number

-- the negation of n, with its sign known
minus-≤ℤ_pos : (m n : ℕ) → neg_ℤ (pos m) ≤ℤ pos n
minus-≤ℤ_pos zero n = zero-≤ℤ_pos n
minus-≤ℤ_pos (suc m) n = ≤ℤ_of-<ℤ (negsuc-<ℤ_pos m n)

minus-<ℤ_zero : (n : ℕ) → 0 < n → neg_ℤ (pos n) <ℤ pos 0
minus-<ℤ_zero zero h = absurd (Nat.not-suc-le-zero h)
minus-<ℤ_zero (suc n) h = negsuc-<ℤ_pos n 0

pos_times-≤ℤ : (c : ℕ) (a b : ℤ) → a ≤ℤ b → (pos c *ℤ a) ≤ℤ (pos c *ℤ b)
pos_times-≤ℤ c (pos a) (pos b) h = pos-≤ (Nat.mul-le-mul_left c (≤-of_pos h))
pos_times-≤ℤ c (pos a) (negsuc b) h = clash_ℤ (negsuc-<ℤ_pos b a) h
pos_times-≤ℤ c (negsuc a) (pos b) h = minus-≤ℤ_pos (c * suc a) (c * b)
pos_times-≤ℤ c (negsuc a) (negsuc b) h = negℤ-≤ℤ (pos-≤ (Nat.mul-le-mul_left c (≤-of_pos (negℤ-≤ℤ h))))

pub *ℤ_mono : {a b c : ℤ} → pos 0 ≤ℤ c → a ≤ℤ b → (c *ℤ a) ≤ℤ (c *ℤ b)
*ℤ_mono {a} {b} {c} h k = subst (λ (x : ℤ). (x *ℤ a) ≤ℤ (x *ℤ b)) (pos_nat_abs_of-≤ℤ h) (pos_times-≤ℤ (nat_abs c) a b k)

-- ---- cancelling a factor

-- no product that is not negative is n + 1 times a negative number
no_match : (c a b : ℕ) → pos a ≡ neg_ℤ (pos (suc c * suc b)) → ⊥
no_match c a b e = ≢-of-<ℤ (≤ℤ-<ℤ_trans (zero-≤ℤ_pos a) (subst (λ (x : ℤ). x <ℤ pos 0) (sym e) (minus-<ℤ_zero (suc c * suc b) (Nat.mul-pos (Nat.zero-lt-suc c) (Nat.zero-lt-suc b))))) refl

pos_cancel : (c : ℕ) (a b : ℤ) → pos (suc c) *ℤ a ≡ pos (suc c) *ℤ b → a ≡ b
pos_cancel c (pos a) (pos b) e = ap pos (Nat.eq_of_mul-eq-mul_left (suc c) (Nat.zero-lt-suc c) a b (ap nat_abs e))
pos_cancel c (pos a) (negsuc b) e = absurd (no_match c (suc c * a) b e)
pos_cancel c (negsuc a) (pos b) e = absurd (no_match c (suc c * b) a (sym e))
pos_cancel c (negsuc a) (negsuc b) e =
    ap negsuc (Nat.suc_inj (Nat.eq_of_mul-eq-mul_left (suc c) (Nat.zero-lt-suc c) (suc a) (suc b) (sym (nat_abs_neg (pos (suc c * suc a))) ∙ ap nat_abs e ∙ nat_abs_neg (pos (suc c * suc b)))))

pub *ℤ_cancel : (c : ℤ) {a b : ℤ} → c ≢ pos 0 → c *ℤ a ≡ c *ℤ b → a ≡ b
*ℤ_cancel (pos zero) f e = absurd (f refl)
*ℤ_cancel (pos (suc c)) {a} {b} f e = pos_cancel c a b e
*ℤ_cancel (negsuc c) {a} {b} f e = pos_cancel c a b (sym (neg_ℤ-neg_ℤ (pos (suc c) *ℤ a)) ∙ ap neg_ℤ (sym (negℤ-*ℤ (pos (suc c)) a) ∙ e ∙ negℤ-*ℤ (pos (suc c)) b) ∙ neg_ℤ-neg_ℤ (pos (suc c) *ℤ b))

pub *ℤ_mono-< : {a b c : ℤ} → pos 0 <ℤ c → a <ℤ b → (c *ℤ a) <ℤ (c *ℤ b)
*ℤ_mono-< {a} {b} {c} h k = <ℤ_of-≤ℤ-≢ (*ℤ_mono (≤ℤ_of-<ℤ h) (≤ℤ_of-<ℤ k)) (λ e. ≢-of-<ℤ k (*ℤ_cancel c (λ z. ≢-of-<ℤ h (sym z)) e))

pub *ℤ_cancel-<ℤ : {a b c : ℤ} → pos 0 ≤ℤ c → (c *ℤ a) <ℤ (c *ℤ b) → a <ℤ b
*ℤ_cancel-<ℤ h k = <ℤ_by_not (λ l. clash_ℤ k (*ℤ_mono h l))

pub zero-<ℤ-* : {a b : ℤ} → pos 0 <ℤ a → pos 0 <ℤ b → pos 0 <ℤ (a *ℤ b)
zero-<ℤ-* {a} {b} h k = subst (λ (x : ℤ). x <ℤ (a *ℤ b)) (*ℤ-zero a) (*ℤ_mono-< h k)
