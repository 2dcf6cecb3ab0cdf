-- Fermat's theorem, by the binomial theorem: (x + 1)ˡ leaves what xˡ + 1 leaves, so xˡ leaves what x leaves, by induction on x.
-- Hence a number whose power to (l − 1)/2 does not leave 1 has no root modulo the odd prime l. Assumes nothing.
use mathlib.Core.Path.{◌≡◌, sym, ap, ◌∙◌, subst}
use mathlib.Core.Logic.{◌⊎◌, inl, inr}
use Prim.Native.Nat.{ℕ, zero, suc, ◌+◌, ◌-◌, ◌*◌, ◌^◌, ◌/◌, ◌%◌, ◌<◌, ◌∣◌}
use native.Mathlib.Nat.{pow-suc, mul-zero, mul-one, suc-mod, not-suc-le-zero, mod-eq_of_lt, pow-succ', dvd_of_mod-eq-zero, mod-eq-zero_of_dvd, dvd-mul_right_of_dvd}
use native.Mathlib.Decide.{ℕ_discrete}
use native.Mathlib.Omega.{arith}
use lib.IntN.{pos}
use Rattle.number.specs.Prime.{Prime}
use Rattle.number.specs.Remainder.{remainder_of}
use Rattle.number.specs.Residue.{SquareModulo}
use Rattle.number.proofs.Binomial.{power_of_sum}
use Rattle.number.proofs.Modulo.{cancel_factor, same_power, power_of_square}
use Rattle.number.proofs.Congruence.{same_of_congruent}
use Rattle.number.proofs.Residues.{reduced_root}

fermat_power : {l : ℕ} → Prime l → (x : ℕ) → x ^ l % l ≡ x % l
fermat_power {l = zero} prime x = absurd (not-suc-le-zero prime.at_least_two)
fermat_power {l = suc n} prime zero = ap (λ (p : ℕ). p % suc n) (pow-suc 0 n ∙ mul-zero (0 ^ n))
fermat_power {l = suc n} prime (suc x) =
    power_of_sum prime x
    ∙ suc-mod (x ^ suc n) (suc n)
    ∙ ap (λ (p : ℕ). suc p % suc n) (fermat_power prime x)
    ∙ sym (suc-mod x (suc n))

-- x cancels
fermat : {n x : ℕ} → Prime (suc n) → (suc n ∣ x → ⊥) → x ^ n % suc n ≡ 1
fermat {n} {x} prime away = cancel_factor prime x (x ^ n) 1 away by_power ∙ mod-eq_of_lt prime.at_least_two
  where
    by_power : x * x ^ n % suc n ≡ x * 1 % suc n
    by_power = ap (λ (p : ℕ). p % suc n) (sym (pow-succ' x n)) ∙ fermat_power prime x ∙ ap (λ (p : ℕ). p % suc n) (sym (mul-one x))

-- a square's power to h = (l − 1)/2 leaves 1
module _ (h r a : ℕ) where
  abbrev Euler : ℕ → Type 0
  Euler l = Prime l → r * r % l ≡ a % l → (l ∣ a → ⊥) → a ^ h % l ≡ 1

  euler_odd : Euler (suc (h + h))
  euler_odd prime root away =
      sym (same_power (suc (h + h)) (r * r) a h root) ∙ ap (λ (p : ℕ). p % suc (h + h)) (power_of_square r h) ∙ fermat prime away_from_root
    where
      away_from_root : suc (h + h) ∣ r → ⊥
      away_from_root d =
          away (dvd_of_mod-eq-zero (suc (h + h)) (sym root ∙ mod-eq-zero_of_dvd (suc (h + h)) (dvd-mul_right_of_dvd (suc (h + h)) d r)))

  pub euler : {l : ℕ} → l ≡ suc (h + h) → Prime l → r * r % l ≡ a % l → (l ∣ a → ⊥) → a ^ h % l ≡ 1
  euler odd = subst Euler (sym odd) euler_odd

pub odd_prime : {l : ℕ} → Prime l → 2 < l → l % 2 ≡ 1
odd_prime {l} prime large = by (ℕ_discrete (l % 2) 0)
  where
    not_even : (◌≡◌ {A = ℕ} 2 1) ⊎ (2 ≡ l) → ⊥
    not_even (inl e) = omega arith
    not_even (inr e) = omega arith

    by : Dec (l % 2 ≡ 0) → l % 2 ≡ 1
    by (yes e) = absurd (not_even (prime.only_divisors 2 (dvd_of_mod-eq-zero 2 e)))
    by (no e) = omega arith

-- a power to (l − 1)/2 that does not leave 1 refutes a root
pub not_square_by_power : {l a : ℕ} → Prime l → 2 < l → (l ∣ a → ⊥) → (a ^ ((l - 1) / 2) % l ≡ 1 → ⊥) → ¬ SquareModulo l (pos a)
not_square_by_power {l} {a} prime large away differs s =
    differs (euler ((l - 1) / 2) r a halves prime (same_of_congruent l (r * r) a (reduced_root (omega arith) s)) away)
  where
    r : ℕ
    r = remainder_of l s.root

    halves : l ≡ suc ((l - 1) / 2 + (l - 1) / 2)
    halves = omega (arith, odd_prime prime large)
