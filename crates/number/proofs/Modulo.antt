-- Remainders of natural numbers: products and powers by remainders, repeated squaring, and cancelling modulo a prime. Numbers leave the
-- same remainder where they are congruent, and a prime that divides a product divides a factor. Assumes nothing.
use mathlib.Core.Path.{◌≡◌, refl, sym, ap, ◌∙◌, subst}
use mathlib.Core.Logic.{⊎_elim}
use mathlib.Core.List.{[], ◌∷◌}
use Prim.Native.Nat.{ℕ, zero, suc, ◌+◌, ◌*◌, ◌^◌, ◌/◌, ◌%◌, ◌<◌, ◌∣◌}
use native.Mathlib.Nat.{mod-mod, mul_assoc, pow-zero, pow-suc, mod-eq_of_lt, mul-one, pow-succ'}
use native.Mathlib.Omega.{arith}
use lib.IntN.{ℤ, pos, ◌-ℤ◌, ◌*ℤ◌}
use Rattle.whole.proofs.Ring.{by_ring, reify}
use Rattle.number.specs.Divides.{◌∣ℤ◌}
use Rattle.number.specs.Prime.{Prime}
use Rattle.number.proofs.Divides.{sizes_divide}
use Rattle.number.proofs.Prime.{prime_divides_product}
use Rattle.number.proofs.Congruence.{congruent_product, congruent_of_same, same_of_congruent}

-- ---- products and powers
pub same_product : (n a b c d : ℕ) → a % n ≡ b % n → c % n ≡ d % n → a * c % n ≡ b * d % n
same_product n a b c d p q =
    same_of_congruent n (a * c) (b * d) (congruent_product (congruent_of_same n a b p) (congruent_of_same n c d q))

pub same_power : (n a b k : ℕ) → a % n ≡ b % n → a ^ k % n ≡ b ^ k % n
same_power n a b zero p = ap (λ (x : ℕ). x % n) (pow-zero a ∙ sym (pow-zero b))
same_power n a b (suc k) p =
    ap (λ (x : ℕ). x % n) (pow-suc a k) ∙ same_product n (a ^ k) (b ^ k) a b (same_power n a b k p) p ∙ ap (λ (x : ℕ). x % n) (sym (pow-suc b k))

-- (a·a)ᵏ is aᵏ⁺ᵏ
pub power_of_square : (a k : ℕ) → (a * a) ^ k ≡ a ^ (k + k)
power_of_square a zero = pow-zero (a * a) ∙ sym (pow-zero a)
power_of_square a (suc k) =
    pow-suc (a * a) k
    ∙ ap (λ (p : ℕ). p * (a * a)) (power_of_square a k)
    ∙ sym (mul_assoc (a ^ (k + k)) a a)
    ∙ ap (λ (p : ℕ). p * a) (sym (pow-suc a (k + k)))
    ∙ sym (pow-suc a (suc (k + k)))
    ∙ ap (λ (i : ℕ). a ^ i) twice
  where
    twice : suc (suc (k + k)) ≡ suc k + suc k
    twice = omega arith

-- ---- repeated squaring: a product r·sᵏ, with t the square of s, and q the product of r and s
module _ (n r s t k : ℕ) (squared : t ≡ s * s % n) where
  halved : t ^ (k / 2) % n ≡ s ^ (k / 2 + k / 2) % n
  halved =
      same_power n t (s * s) (k / 2) (ap (λ (x : ℕ). x % n) squared ∙ mod-mod (s * s) n)
      ∙ ap (λ (x : ℕ). x % n) (power_of_square s (k / 2))

  pub power_even : k % 2 ≡ 0 → r * t ^ (k / 2) % n ≡ r * s ^ k % n
  power_even even =
      same_product n r r (t ^ (k / 2)) (s ^ (k / 2 + k / 2)) refl halved ∙ ap (λ (i : ℕ). r * s ^ i % n) twice
    where
      twice : k / 2 + k / 2 ≡ k
      twice = omega arith

  pub power_odd : (q : ℕ) → q ≡ r * s % n → k % 2 ≡ 1 → q * t ^ (k / 2) % n ≡ r * s ^ k % n
  power_odd q multiplied odd =
      same_product n q (r * s) (t ^ (k / 2)) (s ^ (k / 2 + k / 2)) (ap (λ (x : ℕ). x % n) multiplied ∙ mod-mod (r * s) n) halved
      ∙ ap (λ (x : ℕ). x % n) (mul_assoc r s (s ^ (k / 2 + k / 2)))
      ∙ ap (λ (x : ℕ). r * x % n) (sym (pow-succ' s (k / 2 + k / 2)))
      ∙ ap (λ (i : ℕ). r * s ^ i % n) twice
    where
      twice : suc (k / 2 + k / 2) ≡ k
      twice = omega arith

pub power_done : (n r s : ℕ) {k : ℕ} → k ≡ 0 → r < n → r * s ^ k % n ≡ r
power_done n r s none h = ap (λ (i : ℕ). r * s ^ i % n) none ∙ ap (λ (x : ℕ). x % n) (ap (λ (x : ℕ). r * x) (pow-zero s) ∙ mul-one r) ∙ mod-eq_of_lt h

-- ---- a factor that the prime does not divide cancels
pub cancel_factor : {l : ℕ} → Prime l → (r a b : ℕ) → (l ∣ r → ⊥) → r * a % l ≡ r * b % l → a % l ≡ b % l
cancel_factor {l} prime r a b away p =
    ⊎_elim (λ d. absurd (away (sizes_divide d))) (λ d. same_of_congruent l a b (record { difference = d }))
    (prime_divides_product (pos r) (pos a -ℤ pos b) prime
    (subst (λ (x : ℤ). pos l ∣ℤ x) (out_of_difference (pos r) (pos a) (pos b)) (congruent_of_same l (r * a) (r * b) p).difference))
  where
    out_of_difference : (r a b : ℤ) → r *ℤ a -ℤ r *ℤ b ≡ r *ℤ (a -ℤ b)
    out_of_difference r a b = by_ring (r ∷ a ∷ b ∷ []) (search reify depth 64 fits 9999) tt
