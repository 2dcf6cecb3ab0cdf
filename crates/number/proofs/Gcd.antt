-- The greatest common divisor: Euclid's repeated remainder gives the one number that divides both and that every common divisor
-- divides, since b and the remainder of a by b have the same common divisors as a and b. Assumes nothing.
use mathlib.Core.Path.{◌≡◌, sym, ap₂, ◌∙◌, subst}
use Prim.Native.Nat.{ℕ, zero, suc, ◌*◌, ◌/◌, ◌%◌, ◌<◌, ◌∣◌}
use native.Mathlib.Nat.{dvd_refl, dvd-zero, dvd_trans, dvd_antisymm, dvd-mod_iff, mod-lt, zero-lt-suc, not-suc-le-zero, pos_of_dvd_of_pos, eq-zero_of_zero-dvd, dvd_of_mul-dvd-mul_left, mul-dvd-mul_left, mul-one, eq_of_mul-eq-mul_left, eq-one_of_dvd-one, dvd-mul_right}
use native.Mathlib.Omega.{arith}
use lib.IntN.{ℤ, pos, nat_abs}
use lib.Signed.{quot_z}
use Rattle.whole.proofs.Size.{nat_abs_quot}
use Rattle.number.specs.Divides.{◌∣ℤ◌}
use Rattle.number.specs.Gcd.{euclid, gcd_of, Coprime}
use Rattle.number.proofs.Divides.{times_quotient, divides_by_sizes}

pub record IsGcd (a b g : ℕ) : Type 0 where
  pub divides_left : g ∣ a
  pub divides_right : g ∣ b
  pub is_divided : (d : ℕ) → d ∣ a → d ∣ b → d ∣ g

remainder_step : {a b g : ℕ} → IsGcd b (a % b) g → IsGcd a b g
remainder_step {a} {b} {g} p =
    record {
      divides_left = (dvd-mod_iff g p.divides_left).0 p.divides_right;
      divides_right = p.divides_left;
      is_divided = λ d h k. p.is_divided d k ((dvd-mod_iff d k).1 h);
    }

euclid_is : (n a b : ℕ) → b < n → IsGcd a b (euclid n a b)
unfolding euclid
euclid_is zero a b h = absurd (not-suc-le-zero h)
euclid_is (suc n) a zero h = record { divides_left = dvd_refl a; divides_right = dvd-zero a; is_divided = λ d k l. k }
euclid_is (suc n) a (suc b) h =
    remainder_step (euclid_is n (suc b) (a % suc b) (omega (arith, mod-lt a (zero-lt-suc b))))

pub gcd_is : (a b : ℕ) → IsGcd a b (gcd_of a b)
unfolding gcd_of
gcd_is a b = euclid_is (suc b) a b (omega arith)

pub gcd_unique : {a b g h : ℕ} → IsGcd a b g → IsGcd a b h → g ≡ h
gcd_unique {a} {b} {g} {h} p q =
    dvd_antisymm (q.is_divided g p.divides_left p.divides_right) (p.is_divided h q.divides_left q.divides_right)

pub gcd_equals : {a b g : ℕ} → IsGcd a b g → gcd_of a b ≡ g
gcd_equals {a} {b} p = gcd_unique (gcd_is a b) p

pub gcd_divides_left : (a b : ℕ) → gcd_of a b ∣ a
gcd_divides_left a b = (gcd_is a b).divides_left

pub gcd_divides_right : (a b : ℕ) → gcd_of a b ∣ b
gcd_divides_right a b = (gcd_is a b).divides_right

pub divides_gcd : (d : ℕ) {a b : ℕ} → d ∣ a → d ∣ b → d ∣ gcd_of a b
divides_gcd d {a} {b} = (gcd_is a b).is_divided d

pub gcd_symmetric : (a b : ℕ) → gcd_of a b ≡ gcd_of b a
gcd_symmetric a b =
    gcd_equals
    record {
      divides_left = gcd_divides_right b a;
      divides_right = gcd_divides_left b a;
      is_divided = λ d h k. divides_gcd d k h;
    }

pub gcd_remainder : (a b : ℕ) → gcd_of a b ≡ gcd_of b (a % b)
gcd_remainder a b = gcd_equals (remainder_step (gcd_is b (a % b)))

pub gcd_zero : (a : ℕ) → gcd_of a 0 ≡ a
gcd_zero a = gcd_equals record { divides_left = dvd_refl a; divides_right = dvd-zero a; is_divided = λ d h k. h }

pub gcd_positive_left : (a b : ℕ) → 0 < a → 0 < gcd_of a b
gcd_positive_left a b = pos_of_dvd_of_pos (gcd_divides_left a b)

pub both_zero_of_gcd_zero : {a b : ℕ} → gcd_of a b ≡ 0 → (a ≡ 0) × (b ≡ 0)
both_zero_of_gcd_zero {a} {b} e =
    (zero_if (gcd_divides_left a b), zero_if (gcd_divides_right a b))
  where
    zero_if : {n : ℕ} → gcd_of a b ∣ n → n ≡ 0
    zero_if {n} h = eq-zero_of_zero-dvd (subst (λ (g : ℕ). g ∣ n) e h)

-- ---- common factors and quotients
pub gcd_scaled : (k a b : ℕ) → 0 < k → gcd_of (k * a) (k * b) ≡ k * gcd_of a b
gcd_scaled k a b positive =
    gcd_equals
    record {
      divides_left = mul-dvd-mul_left (gcd_of a b) k (gcd_divides_left a b);
      divides_right = mul-dvd-mul_left (gcd_of a b) k (gcd_divides_right a b);
      is_divided = λ d h l. dvd_trans d (divides_gcd d h l) scaled_divides;
    }
  where
    scaled : ℕ
    scaled = gcd_of (k * a) (k * b)

    k_divides : k ∣ scaled
    k_divides = divides_gcd k (dvd-mul_right k a) (dvd-mul_right k b)

    part_divides : {c : ℕ} → scaled ∣ k * c → scaled / k ∣ c
    part_divides {c} h = dvd_of_mul-dvd-mul_left (scaled / k) positive (subst (λ (n : ℕ). n ∣ k * c) (times_quotient k k_divides) h)

    scaled_divides : scaled ∣ k * gcd_of a b
    scaled_divides =
        subst (λ (n : ℕ). n ∣ k * gcd_of a b) (sym (times_quotient k k_divides))
        (mul-dvd-mul_left (scaled / k) k
        (divides_gcd (scaled / k) (part_divides (gcd_divides_left (k * a) (k * b))) (part_divides (gcd_divides_right (k * a) (k * b)))))

pub cofactors_coprime : (g a b : ℕ) → 0 < g → gcd_of (g * a) (g * b) ≡ g → gcd_of a b ≡ 1
cofactors_coprime g a b positive e =
    eq_of_mul-eq-mul_left g positive (gcd_of a b) 1 (sym (gcd_scaled g a b positive) ∙ e ∙ sym (mul-one g))

pub quotients_coprime : (a b : ℕ) → 0 < gcd_of a b → gcd_of (a / gcd_of a b) (b / gcd_of a b) ≡ 1
quotients_coprime a b positive =
    cofactors_coprime (gcd_of a b) (a / gcd_of a b) (b / gcd_of a b) positive
    (ap₂ gcd_of (sym (times_quotient (gcd_of a b) (gcd_divides_left a b))) (sym (times_quotient (gcd_of a b) (gcd_divides_right a b))))

-- ---- on ℤ
pub gcd-∣ℤ_left : (a b : ℤ) → pos (gcd_of (nat_abs a) (nat_abs b)) ∣ℤ a
gcd-∣ℤ_left a b = divides_by_sizes (pos (gcd_of (nat_abs a) (nat_abs b))) a (gcd_divides_left (nat_abs a) (nat_abs b))

pub gcd-∣ℤ_right : (a b : ℤ) → pos (gcd_of (nat_abs a) (nat_abs b)) ∣ℤ b
gcd-∣ℤ_right a b = divides_by_sizes (pos (gcd_of (nat_abs a) (nat_abs b))) b (gcd_divides_right (nat_abs a) (nat_abs b))

-- ---- no common factor
pub quotients_are_coprime : (a b : ℤ) (g : ℕ) → 0 < g → gcd_of (nat_abs a) (nat_abs b) ≡ g → Coprime (quot_z a (pos g)) (quot_z b (pos g))
quotients_are_coprime a b g positive e =
    record {
      gcd_is_one =
          ap₂ gcd_of (nat_abs_quot a (pos g)) (nat_abs_quot b (pos g))
          ∙ subst (λ (h : ℕ). gcd_of (nat_abs a / h) (nat_abs b / h) ≡ 1) e
          (quotients_coprime (nat_abs a) (nat_abs b) (subst (λ (h : ℕ). 0 < h) (sym e) positive));
    }

pub coprime_of_common_divisors : {a b : ℤ} → ((d : ℕ) → d ∣ nat_abs a → d ∣ nat_abs b → d ≡ 1) → Coprime a b
coprime_of_common_divisors {a} {b} only =
    record { gcd_is_one = only (gcd_of (nat_abs a) (nat_abs b)) (gcd_divides_left (nat_abs a) (nat_abs b)) (gcd_divides_right (nat_abs a) (nat_abs b)) }

pub coprime_common_divisor : {a b : ℤ} → Coprime a b → (d : ℕ) → d ∣ nat_abs a → d ∣ nat_abs b → d ≡ 1
coprime_common_divisor p d h k = eq-one_of_dvd-one (subst (λ (g : ℕ). d ∣ g) p.gcd_is_one (divides_gcd d h k))

pub coprime_symmetric : {a b : ℤ} → Coprime a b → Coprime b a
coprime_symmetric {a} {b} p = record { gcd_is_one = gcd_symmetric (nat_abs b) (nat_abs a) ∙ p.gcd_is_one }

-- only the sizes count
pub coprime_same_sizes : {a b c d : ℤ} → nat_abs a ≡ nat_abs c → nat_abs b ≡ nat_abs d → Coprime a b → Coprime c d
coprime_same_sizes e f p = record { gcd_is_one = sym (ap₂ gcd_of e f) ∙ p.gcd_is_one }
