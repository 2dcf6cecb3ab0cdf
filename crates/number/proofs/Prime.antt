-- Primes: the test that tries every divisor is right, since the least divisor from 2 up is prime; each number from 2 up has a prime
-- divisor; a prime that does not divide a number has no factor in common with it, so it divides a factor of each product that it
-- divides. Assumes nothing.
use mathlib.Core.Path.{◌≡◌, refl, sym, subst}
use mathlib.Core.Logic.{◌⊎◌, inl, inr, ⊎_elim, ◌↔◌, ◌≢◌}
use mathlib.Core.Bool.{true, ◌&&◌, and-eq-true_iff}
use Prim.Native.Nat.{ℕ, zero, suc, ◌*◌, ◌≤◌, ◌<◌, ◌∣◌}
use native.Mathlib.Nat.{dvd_refl, dvd-zero, dvd_trans, le_of_dvd, pos_of_dvd_of_pos, eq-or-lt_of_le, le_antisymm}
use native.Mathlib.Omega.{arith}
use borrow.Author.Tests.{leb-true, le-leb, eqb-true, eq-eqb}
use lib.Dec.{leb, eqb}
use lib.IntN.{ℤ, pos, nat_abs, ◌*ℤ◌}
use Rattle.number.specs.Divides.{◌∣ℤ◌, divides}
use Rattle.number.specs.Least.{least, first_from}
use Rattle.number.specs.Gcd.{gcd_of, Coprime}
use Rattle.number.specs.Prime.{Prime, least_divisor, is_prime}
use Rattle.number.proofs.Least.{least_at_most, least_holds, least_is_least}
use Rattle.number.proofs.Divides.{divides_iff, sizes_divide, pos_divides}
use Rattle.number.proofs.Gcd.{gcd_divides_left, gcd-∣ℤ_right}
use Rattle.number.proofs.Bezout.{euclid_lemma}

-- ---- the least divisor
-- the test of `least_divisor`
pub proper_divisor_iff : (d : ℕ) {n : ℕ} → (leb 2 d && divides d n ≡ true) ↔ ((2 ≤ d) × (d ∣ n))
proper_divisor_iff d {n} =
    (λ e. (leb-true 2 d (tests.0 e).0, (divides_iff d).0 (tests.0 e).1), λ p. tests.1 (le-leb 2 d p.0, (divides_iff d).1 p.1))
  where
    tests : (leb 2 d && divides d n ≡ true) ↔ ((leb 2 d ≡ true) × (divides d n ≡ true))
    tests = and-eq-true_iff (leb 2 d) (divides d n)

own_or_proper : (n : ℕ) → (n ≡ least_divisor n) ⊎ ((2 ≤ least_divisor n) × (least_divisor n ∣ n))
unfolding least_divisor
own_or_proper n =
    ⊎_elim (λ e. inl (sym e)) (λ found. inr ((proper_divisor_iff (least_divisor n)).0 (least_holds _ n found)))
    (eq-or-lt_of_le (least_at_most (λ d. leb 2 d && divides d n) n))

pub least_divisor_divides : (n : ℕ) → least_divisor n ∣ n
least_divisor_divides n = ⊎_elim (λ e. subst (λ (d : ℕ). d ∣ n) e (dvd_refl n)) (λ p. p.1) (own_or_proper n)

pub least_divisor_at_least_two : {n : ℕ} → 2 ≤ n → 2 ≤ least_divisor n
least_divisor_at_least_two {n} h = ⊎_elim (λ e. subst (λ (d : ℕ). 2 ≤ d) e h) (λ p. p.0) (own_or_proper n)

pub least_divisor_is_least : {n d : ℕ} → 2 ≤ d → d ∣ n → least_divisor n ≤ d
unfolding least_divisor
least_divisor_is_least {n} {d} h k = least_is_least (λ d. leb 2 d && divides d n) n {i = d} ((proper_divisor_iff d).1 (h, k))

-- a divisor of a positive number is 1 or at least 2
pub one_or_more : {d n : ℕ} → 0 < n → d ∣ n → (d ≡ 1) ⊎ (2 ≤ d)
one_or_more positive h = ⊎_elim (λ e. inl (sym e)) inr (eq-or-lt_of_le (pos_of_dvd_of_pos h positive))

pub least_divisor_prime : {n : ℕ} → 2 ≤ n → Prime (least_divisor n)
least_divisor_prime {n} h =
    let two : 2 ≤ least_divisor n = least_divisor_at_least_two h in
    let positive : 0 < least_divisor n = omega arith in
    record {
      at_least_two = two;
      only_divisors =
          λ d k. ⊎_elim inl
          (λ more. inr (le_antisymm (le_of_dvd positive k) (least_divisor_is_least more (dvd_trans d k (least_divisor_divides n)))))
          (one_or_more positive k);
    }

-- ---- the test
pub is_prime_iff : {l : ℕ} → (is_prime l ≡ true) ↔ Prime l
unfolding is_prime
is_prime_iff {l} = (
  λ e. subst Prime (eqb-true (least_divisor l) l (tests.0 e).1) (least_divisor_prime (leb-true 2 l (tests.0 e).0)),
  λ p. tests.1 (le-leb 2 l p.at_least_two, eq-eqb (least_divisor l) l (own_least_divisor p)),
)
  where
    tests : (leb 2 l && eqb (least_divisor l) l ≡ true) ↔ ((leb 2 l ≡ true) × (eqb (least_divisor l) l ≡ true))
    tests = and-eq-true_iff (leb 2 l) (eqb (least_divisor l) l)

    own_least_divisor : Prime l → least_divisor l ≡ l
    own_least_divisor p =
        let two : 2 ≤ least_divisor l = least_divisor_at_least_two p.at_least_two in
        ⊎_elim (λ one. absurd (omega arith)) (λ e. e) (p.only_divisors (least_divisor l) (least_divisor_divides l))

-- ---- primes and common factors
pub prime_two : Prime 2
prime_two = is_prime_iff.0 (unfold is_prime least_divisor least first_from divides in refl)

-- only 1 has no prime divisor; 2 divides 0
pub prime_divisor : (n : ℕ) → n ≢ 1 → (l : ℕ) × Prime l × (l ∣ n)
prime_divisor zero other = (2, prime_two, dvd-zero 2)
prime_divisor (suc zero) other = absurd (other refl)
prime_divisor (suc (suc n)) other =
    (least_divisor (suc (suc n)), least_divisor_prime (omega arith), least_divisor_divides (suc (suc n)))

pub prime_divides_or_coprime : {l : ℕ} → Prime l → (a : ℤ) → (pos l ∣ℤ a) ⊎ Coprime (pos l) a
prime_divides_or_coprime {l} p a =
    ⊎_elim (λ one. inr record { gcd_is_one = one })
    (λ e. inl (subst (λ (g : ℕ). pos g ∣ℤ a) e (gcd-∣ℤ_right (pos l) a)))
    (p.only_divisors (gcd_of l (nat_abs a)) (gcd_divides_left l (nat_abs a)))

pub prime_coprime : {l : ℕ} {a : ℤ} → Prime l → ¬ (pos l ∣ℤ a) → Coprime (pos l) a
prime_coprime {l} {a} p not-divides = ⊎_elim (λ h. absurd (not-divides h)) (λ c. c) (prime_divides_or_coprime p a)

pub prime_not_one : {l : ℕ} → Prime l → l ≢ 1
prime_not_one p e = omega (arith, p.at_least_two)

-- a divided product has a divided factor
pub prime_divides_product : {l : ℕ} (a b : ℤ) → Prime l → pos l ∣ℤ (a *ℤ b) → (pos l ∣ℤ a) ⊎ (pos l ∣ℤ b)
prime_divides_product a b p h = ⊎_elim inl (λ c. inr (euclid_lemma b c h)) (prime_divides_or_coprime p a)

pub prime_divides_product_ℕ : {l : ℕ} (a b : ℕ) → Prime l → l ∣ a * b → (l ∣ a) ⊎ (l ∣ b)
prime_divides_product_ℕ {l} a b p h =
    ⊎_elim (λ k. inl (sizes_divide k)) (λ k. inr (sizes_divide k)) (prime_divides_product (pos a) (pos b) p (pos_divides l h))

pub prime_divides_square : {l : ℕ} (a : ℤ) → Prime l → pos l ∣ℤ (a *ℤ a) → pos l ∣ℤ a
prime_divides_square a p h = ⊎_elim (λ k. k) (λ k. k) (prime_divides_product a a p h)
