-- The laws of divisibility: the test says what the relation says, on ℕ and, through the sizes, on ℤ; a quotient makes a multiple and
-- a multiple a quotient. Assumes nothing.
use mathlib.Core.Path.{◌≡◌, refl, sym, ap, ◌∙◌, subst}
use mathlib.Core.Logic.{◌↔◌}
use mathlib.Core.Bool.{true}
use Prim.Native.Nat.{ℕ, ◌*◌, ◌/◌, ◌%◌, ◌≤◌, ◌<◌, ◌∣◌}
use native.Mathlib.Nat.{dvd_of_mod-eq-zero, mod-eq-zero_of_dvd, mul-div_cancel', div-mul_cancel, dvd-mul_left, dvd_of_mul-dvd-mul_left, le_of_dvd}
use native.Mathlib.Decide.{dec_dvd, map_dec}
use borrow.Author.Tests.{eqb-true, eq-eqb}
use lib.IntN.{ℤ, pos, negsuc, nat_abs, neg_ℤ, neg_ℤ-neg_ℤ, ◌+ℤ◌, ◌-ℤ◌, ◌*ℤ◌, *ℤ_comm, zero-*ℤ, +ℤ-neg_ℤ_cancel}
use Rattle.whole.proofs.Laws.{one-*ℤ, *ℤ_assoc, *ℤ_distribʳ, negℤ-*ℤ, *ℤ_negℤ}
use Rattle.whole.proofs.Size.{nat_abs-*}
use Rattle.number.specs.Divides.{◌∣ℤ◌, divides}

-- ---- the test, on ℕ
pub divides_iff : (d : ℕ) {n : ℕ} → (divides d n ≡ true) ↔ (d ∣ n)
unfolding divides
divides_iff d {n} = (λ e. dvd_of_mod-eq-zero d (eqb-true (n % d) 0 e), λ h. eq-eqb (n % d) 0 (mod-eq-zero_of_dvd d h))

-- the quotient
pub times_quotient : (d : ℕ) {n : ℕ} → d ∣ n → n ≡ d * (n / d)
times_quotient d h = sym (mul-div_cancel' d h)

pub quotient_times : (d : ℕ) {n : ℕ} → d ∣ n → n ≡ n / d * d
quotient_times d h = sym (div-mul_cancel d h)

pub divides_of_multiple : (d q : ℕ) {n : ℕ} → n ≡ q * d → d ∣ n
divides_of_multiple d q e = subst (λ (k : ℕ). d ∣ k) (sym e) (dvd-mul_left d q)

-- ---- on ℤ
pub ∣ℤ_multiple : (q a : ℤ) → a ∣ℤ (q *ℤ a)
∣ℤ_multiple q a = record { quotient = q; multiple = refl }

pub ∣ℤ_refl : (a : ℤ) → a ∣ℤ a
∣ℤ_refl a = record { quotient = pos 1; multiple = sym (one-*ℤ a) }

pub ∣ℤ_zero : (a : ℤ) → a ∣ℤ pos 0
∣ℤ_zero a = record { quotient = pos 0; multiple = sym (zero-*ℤ a) }

pub one-∣ℤ : (a : ℤ) → pos 1 ∣ℤ a
one-∣ℤ a = record { quotient = a; multiple = sym (*ℤ_comm a (pos 1) ∙ one-*ℤ a) }

pub ∣ℤ_trans : {a b c : ℤ} → a ∣ℤ b → b ∣ℤ c → a ∣ℤ c
∣ℤ_trans {a} {b} h k =
    record {
      quotient = k.quotient *ℤ h.quotient;
      multiple = k.multiple ∙ ap (λ x. k.quotient *ℤ x) h.multiple ∙ sym (*ℤ_assoc k.quotient h.quotient a);
    }

pub ∣ℤ_sum : {a b c : ℤ} → a ∣ℤ b → a ∣ℤ c → a ∣ℤ (b +ℤ c)
∣ℤ_sum {a} {b} {c} h k =
    record {
      quotient = h.quotient +ℤ k.quotient;
      multiple =
          ap (λ x. x +ℤ c) h.multiple ∙ ap (λ x. h.quotient *ℤ a +ℤ x) k.multiple
          ∙ sym (*ℤ_distribʳ h.quotient k.quotient a);
    }

pub ∣ℤ_negation : {a b : ℤ} → a ∣ℤ b → a ∣ℤ neg_ℤ b
∣ℤ_negation {a} h =
    record { quotient = neg_ℤ h.quotient; multiple = ap neg_ℤ h.multiple ∙ sym (negℤ-*ℤ h.quotient a) }

pub ∣ℤ_difference : {a b c : ℤ} → a ∣ℤ b → a ∣ℤ c → a ∣ℤ (b -ℤ c)
∣ℤ_difference h k = ∣ℤ_sum h (∣ℤ_negation k)

pub ∣ℤ_times_left : {a b : ℤ} (c : ℤ) → a ∣ℤ b → a ∣ℤ (c *ℤ b)
∣ℤ_times_left {b} c h = ∣ℤ_trans h (∣ℤ_multiple c b)

pub ∣ℤ_times_right : {a b : ℤ} (c : ℤ) → a ∣ℤ b → a ∣ℤ (b *ℤ c)
∣ℤ_times_right {a} {b} c h = subst (λ x. a ∣ℤ x) (*ℤ_comm c b) (∣ℤ_times_left c h)

-- the divisor's sign does not count
pub negation-∣ℤ : {a b : ℤ} → a ∣ℤ b → neg_ℤ a ∣ℤ b
negation-∣ℤ {a} h =
    record {
      quotient = neg_ℤ h.quotient;
      multiple =
          h.multiple ∙ sym (negℤ-*ℤ h.quotient (neg_ℤ a) ∙ ap neg_ℤ (*ℤ_negℤ h.quotient a) ∙ neg_ℤ-neg_ℤ (h.quotient *ℤ a));
    }

-- a divisor of a sum and of one summand divides the other
pub ∣ℤ_of_sum : {a b c : ℤ} → a ∣ℤ (b +ℤ c) → a ∣ℤ c → a ∣ℤ b
∣ℤ_of_sum {a} {b} {c} h k = subst (λ x. a ∣ℤ x) (+ℤ-neg_ℤ_cancel b c) (∣ℤ_difference h k)

-- ---- ℤ through the sizes
pub nat_abs-∣ℤ : (a : ℤ) → a ∣ℤ pos (nat_abs a)
nat_abs-∣ℤ (pos n) = ∣ℤ_refl (pos n)
nat_abs-∣ℤ (negsuc n) = ∣ℤ_negation (∣ℤ_refl (negsuc n))

pub ∣ℤ_nat_abs : (a : ℤ) → pos (nat_abs a) ∣ℤ a
∣ℤ_nat_abs (pos n) = ∣ℤ_refl (pos n)
∣ℤ_nat_abs (negsuc n) = negation-∣ℤ (∣ℤ_refl (negsuc n))

pub sizes_divide : {a b : ℤ} → a ∣ℤ b → nat_abs a ∣ nat_abs b
sizes_divide {a} {b} h =
    divides_of_multiple (nat_abs a) (nat_abs h.quotient) (ap nat_abs h.multiple ∙ nat_abs-* h.quotient a)

pub pos_divides : (m : ℕ) {n : ℕ} → m ∣ n → pos m ∣ℤ pos n
pos_divides m {n} h = record { quotient = pos (n / m); multiple = ap pos (quotient_times m h) }

pub divides_by_sizes : (a b : ℤ) → nat_abs a ∣ nat_abs b → a ∣ℤ b
divides_by_sizes a b h = ∣ℤ_trans (nat_abs-∣ℤ a) (∣ℤ_trans (pos_divides (nat_abs a) h) (∣ℤ_nat_abs b))

pub divisor_size_bound : {a b : ℤ} → 0 < nat_abs b → a ∣ℤ b → nat_abs a ≤ nat_abs b
divisor_size_bound {a} {b} b≢0 h = le_of_dvd b≢0 (sizes_divide h)

pub ∣ℤ_cancel : (c : ℤ) {a b : ℤ} → 0 < nat_abs c → (c *ℤ a) ∣ℤ (c *ℤ b) → a ∣ℤ b
∣ℤ_cancel c {a} {b} c≢0 h =
    divides_by_sizes a b (dvd_of_mul-dvd-mul_left (nat_abs a) c≢0 (rw (← nat_abs-* c a, ← nat_abs-* c b) (sizes_divide h)))

-- the test and the decision
pub divides_sizes_iff : {a b : ℤ} → (a ∣ℤ b) ↔ (divides (nat_abs a) (nat_abs b) ≡ true)
divides_sizes_iff {a} {b} =
    (λ h. (divides_iff (nat_abs a)).1 (sizes_divide h), λ e. divides_by_sizes a b ((divides_iff (nat_abs a)).0 e))

pub decide-∣ℤ : (a b : ℤ) → Dec (a ∣ℤ b)
decide-∣ℤ a b = map_dec (divides_by_sizes a b) sizes_divide (dec_dvd (nat_abs a) (nat_abs b))
