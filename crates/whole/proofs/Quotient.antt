-- The machine's division of whole numbers rounds toward zero, and its remainder has the dividend's sign. Where the divisor's
-- size divides the dividend's the division is exact, whatever the signs: the quotient's sign is the product of the two.
-- Assumes nothing.
use mathlib.Core.Path.{◌≡◌, sym, ap, ◌∙◌, subst}
use mathlib.Core.Logic.{◌≢◌}
use Prim.Native.Nat.{ℕ, suc, ◌*◌, ◌/◌, ◌%◌, ◌∣◌}
use native.Mathlib.Nat as Nat
use lib.IntN.{ℤ, pos, negsuc, neg_ℤ, nat_abs, ◌+ℤ◌, ◌*ℤ◌, neg_ℤ-neg_ℤ, neg_ℤ-+ℤ, +ℤ_idr}
use lib.Signed.{quot_z, rem_z}
use Rattle.whole.proofs.Laws.{negℤ-*ℤ, *ℤ_negℤ}
use Rattle.whole.proofs.Size.{nat_abs-*, nat_abs_rem, nat_abs_zero}
use Rattle.whole.proofs.Products.{*ℤ_cancel}

-- ---- a quotient and its remainder

minus_whole : (x k : ℕ) → neg_ℤ (pos (k * (x / k))) +ℤ neg_ℤ (pos (x % k)) ≡ neg_ℤ (pos x)
minus_whole x k = sym (neg_ℤ-+ℤ (pos (k * (x / k))) (pos (x % k))) ∙ ap (λ (n : ℕ). neg_ℤ (pos n)) (Nat.div-add-mod x k)

pub quot_rem : (x k : ℤ) → k *ℤ quot_z x k +ℤ rem_z x k ≡ x
quot_rem (pos x) (pos k) = ap pos (Nat.div-add-mod x k)
quot_rem (pos x) (negsuc k) =
    ap (λ (z : ℤ). z +ℤ pos (x % suc k)) (negℤ-*ℤ (pos (suc k)) (neg_ℤ (pos (x / suc k))) ∙ ap neg_ℤ (*ℤ_negℤ (pos (suc k)) (pos (x / suc k))) ∙ neg_ℤ-neg_ℤ (pos (suc k * (x / suc k))))
    ∙ ap pos (Nat.div-add-mod x (suc k))
quot_rem (negsuc x) (pos k) = ap (λ (z : ℤ). z +ℤ neg_ℤ (pos (suc x % k))) (*ℤ_negℤ (pos k) (pos (suc x / k))) ∙ minus_whole (suc x) k
quot_rem (negsuc x) (negsuc k) = ap (λ (z : ℤ). z +ℤ neg_ℤ (pos (suc x % suc k))) (negℤ-*ℤ (pos (suc k)) (pos (suc x / suc k))) ∙ minus_whole (suc x) (suc k)

-- ---- exact division

pub rem_zero : (x k : ℤ) → nat_abs k ∣ nat_abs x → rem_z x k ≡ pos 0
rem_zero x k d = nat_abs_zero (rem_z x k) (nat_abs_rem x k ∙ Nat.mod-eq-zero_of_dvd (nat_abs k) d)

pub quot_exact : (x k : ℤ) → nat_abs k ∣ nat_abs x → k *ℤ quot_z x k ≡ x
quot_exact x k d = sym (+ℤ_idr (k *ℤ quot_z x k)) ∙ ap (λ (z : ℤ). k *ℤ quot_z x k +ℤ z) (sym (rem_zero x k d)) ∙ quot_rem x k

-- the one number that k takes to x
pub quot_is : (x k : ℤ) {y : ℤ} → k ≢ pos 0 → k *ℤ y ≡ x → quot_z x k ≡ y
quot_is x k {y} f e = *ℤ_cancel k f (quot_exact x k (subst (λ (n : ℕ). nat_abs k ∣ n) (sym (nat_abs-* k y) ∙ ap nat_abs e) (Nat.dvd-mul_right (nat_abs k) (nat_abs y))) ∙ sym e)
