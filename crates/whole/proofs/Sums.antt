-- The order of the whole numbers and their sums: sums of both sides, negations, a sum of two numbers that are not negative.
-- An order is a difference that is not negative, and differences of sums regroup. Assumes nothing.
use mathlib.Core.Path.{◌≡◌, sym, ap, ◌∙◌, subst, subst₂}
use Prim.Native.Nat.{◌+◌}
use lib.IntN.{ℤ, pos, neg_ℤ, nat_abs, ◌+ℤ◌, ◌-ℤ◌, +ℤ_comm, +ℤ_idr, neg_ℤ-+ℤ, neg_ℤ-neg_ℤ}
use lib.Signed.{◌≤ℤ◌, ◌<ℤ◌, ≤ℤ_refl, clash_ℤ}
use Rattle.whole.proofs.Laws.{swap_middle}
use Rattle.whole.proofs.Order.{≤ℤ_antisym, <ℤ_by_not, zero-≤ℤ_pos, zero-≤ℤ_difference, ≤ℤ_of_difference, pos_nat_abs_of-≤ℤ}

-- ---- regrouping

difference_of_sums : (a b c d : ℤ) → (b +ℤ d) -ℤ (a +ℤ c) ≡ (b -ℤ a) +ℤ (d -ℤ c)
difference_of_sums a b c d = ap (λ (x : ℤ). (b +ℤ d) +ℤ x) (neg_ℤ-+ℤ a c) ∙ swap_middle b d (neg_ℤ a) (neg_ℤ c)

-- ---- numbers that are not negative

pub zero-≤ℤ-+ : {a b : ℤ} → pos 0 ≤ℤ a → pos 0 ≤ℤ b → pos 0 ≤ℤ (a +ℤ b)
zero-≤ℤ-+ {a} {b} h k = subst₂ (λ (x y : ℤ). pos 0 ≤ℤ (x +ℤ y)) (pos_nat_abs_of-≤ℤ h) (pos_nat_abs_of-≤ℤ k) (zero-≤ℤ_pos (nat_abs a + nat_abs b))

-- ---- sums of both sides

pub +ℤ_mono : {a b c d : ℤ} → a ≤ℤ b → c ≤ℤ d → (a +ℤ c) ≤ℤ (b +ℤ d)
+ℤ_mono {a} {b} {c} {d} h k =
    ≤ℤ_of_difference (a +ℤ c) (b +ℤ d) (subst (λ (x : ℤ). pos 0 ≤ℤ x) (sym (difference_of_sums a b c d)) (zero-≤ℤ-+ (zero-≤ℤ_difference h) (zero-≤ℤ_difference k)))

-- ---- negations

pub negℤ-≤ℤ : {a b : ℤ} → a ≤ℤ b → neg_ℤ b ≤ℤ neg_ℤ a
negℤ-≤ℤ {a} {b} h = ≤ℤ_of_difference (neg_ℤ b) (neg_ℤ a) (subst (λ (x : ℤ). pos 0 ≤ℤ x) (+ℤ_comm b (neg_ℤ a) ∙ ap (λ (x : ℤ). neg_ℤ a +ℤ x) (sym (neg_ℤ-neg_ℤ b))) (zero-≤ℤ_difference h))

pub negℤ-<ℤ : {a b : ℤ} → a <ℤ b → neg_ℤ b <ℤ neg_ℤ a
negℤ-<ℤ {a} {b} h = <ℤ_by_not (λ l. clash_ℤ h (subst₂ (λ (x y : ℤ). x ≤ℤ y) (neg_ℤ-neg_ℤ b) (neg_ℤ-neg_ℤ a) (negℤ-≤ℤ l)))

-- ---- a sum that is zero

pub left_zero_of_sum : {a b : ℤ} → pos 0 ≤ℤ a → pos 0 ≤ℤ b → a +ℤ b ≡ pos 0 → a ≡ pos 0
left_zero_of_sum {a} {b} h k e = ≤ℤ_antisym (subst₂ (λ (x y : ℤ). x ≤ℤ y) (+ℤ_idr a) e (+ℤ_mono (≤ℤ_refl a) k)) h

pub right_zero_of_sum : {a b : ℤ} → pos 0 ≤ℤ a → pos 0 ≤ℤ b → a +ℤ b ≡ pos 0 → b ≡ pos 0
right_zero_of_sum {a} {b} h k e = left_zero_of_sum k h (+ℤ_comm b a ∙ e)
