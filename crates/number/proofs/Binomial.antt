-- The binomial theorem on natural numbers, (x + 1)ⁿ is the sum of the binomials times the powers of x, by Pascal's rule; and a prime
-- l divides its binomials but the first and the last, since k + 1 times the binomial at k + 1 is a multiple of l. Assumes nothing.
use mathlib.Core.Path.{◌≡◌, refl, sym, ap, ap₂, subst, ◌∙◌, fun_ext}
use mathlib.Core.Logic.{⊎_elim}
use Prim.Native.Nat.{ℕ, zero, suc, ◌+◌, ◌*◌, ◌^◌, ◌/◌, ◌%◌, ◌≤◌, ◌<◌, ◌∣◌, suc-le-suc}
use native.Mathlib.Nat.{mul-zero, mul-suc, zero-mul, one-mul, mul-add, add-mul, suc-mul, mul_comm, mul_assoc, pow-zero, pow-suc, le_of_suc-le-suc, dvd-add, dvd-zero, dvd-mul_right, le_of_dvd, not-suc-le-zero, zero-lt-suc, le_refl, mul-add-mod_self_left, mul-div_cancel', dvd-mul_right_of_dvd}
use native.Mathlib.Omega.{arith}
use Rattle.number.specs.Prime.{Prime}
use Rattle.number.proofs.Prime.{prime_divides_product_ℕ}

-- ---- sums of f 0 … f (n − 1)
sum : ℕ → (ℕ → ℕ) → ℕ
sum zero f = 0
sum (suc n) f = f 0 + sum n (λ k. f (suc k))

sum_of_zeros : (n : ℕ) → sum n (λ k. 0) ≡ 0
unfolding sum
sum_of_zeros zero = refl
sum_of_zeros (suc n) = omega (arith, sum_of_zeros n)

sum_add : (n : ℕ) (f g : ℕ → ℕ) → sum n (λ k. f k + g k) ≡ sum n f + sum n g
unfolding sum
sum_add zero f g = refl
sum_add (suc n) f g = omega (arith, sum_add n (λ k. f (suc k)) (λ k. g (suc k)))

sum_times : (n c : ℕ) (f : ℕ → ℕ) → sum n (λ k. c * f k) ≡ c * sum n f
unfolding sum
sum_times zero c f = sym (mul-zero c)
sum_times (suc n) c f = omega (arith, sum_times n c (λ k. f (suc k)), mul-add c (f 0) (sum n (λ k. f (suc k))))

sum_last : (n : ℕ) (f : ℕ → ℕ) → sum (suc n) f ≡ sum n f + f n
unfolding sum
sum_last zero f = omega arith
sum_last (suc n) f = omega (arith, sum_last n (λ k. f (suc k)))

divides_sum : (l n : ℕ) (f : ℕ → ℕ) → ((k : ℕ) → k < n → l ∣ f k) → l ∣ sum n f
unfolding sum
divides_sum l zero f each = dvd-zero l
divides_sum l (suc n) f each = dvd-add l (each 0 (omega arith)) (divides_sum l n (λ k. f (suc k)) (λ k h. each (suc k) (omega arith)))

-- ---- binomials
binomial : ℕ → ℕ → ℕ
binomial n zero = 1
binomial zero (suc k) = 0
binomial (suc n) (suc k) = binomial n k + binomial n (suc k)

binomial_above : (n k : ℕ) → n < k → binomial n k ≡ 0
unfolding binomial
binomial_above n zero h = absurd (not-suc-le-zero h)
binomial_above zero (suc k) h = refl
binomial_above (suc n) (suc k) h = omega (arith, binomial_above n k (omega arith), binomial_above n (suc k) (omega arith))

binomial_last : (n : ℕ) → binomial n n ≡ 1
unfolding binomial
binomial_last zero = refl
binomial_last (suc n) = omega (arith, binomial_last n, binomial_above n (suc n) (omega arith))

-- (k + 1)·C(n + 1, k + 1) = (n + 1)·C(n, k)
absorption : (n k : ℕ) → suc k * binomial (suc n) (suc k) ≡ suc n * binomial n k
unfolding binomial
absorption zero zero = refl
absorption zero (suc k) = mul-zero (suc (suc k)) ∙ sym (mul-zero 1)
absorption (suc n) zero = omega (arith, absorption n zero)
absorption (suc n) (suc k) =
    omega (
      arith,
      absorption n k,
      absorption n (suc k),
      mul-add (suc (suc k)) (binomial (suc n) (suc k)) (binomial (suc n) (suc (suc k))),
      suc-mul (suc k) (binomial (suc n) (suc k)),
      mul-add (suc n) (binomial n k) (binomial n (suc k)),
      suc-mul (suc n) (binomial (suc n) (suc k)),
    )

term : ℕ → ℕ → ℕ → ℕ
term x n k = binomial n k * x ^ k

-- Pascal's rule for the terms
term_step : (x n k : ℕ) → term x (suc n) (suc k) ≡ x * term x n k + term x n (suc k)
unfolding term binomial
term_step x n k =
    omega (
      arith,
      add-mul (binomial n k) (binomial n (suc k)) (x ^ suc k),
      ap (λ (p : ℕ). binomial n k * p) (pow-suc x k) ∙ sym (mul_assoc (binomial n k) (x ^ k) x) ∙ mul_comm (binomial n k * x ^ k) x,
    )

-- (x + 1)ⁿ, also with terms beyond the last, which are 0
expansion : (x n m : ℕ) → n ≤ m → sum (suc m) (term x n) ≡ suc x ^ n
unfolding sum term binomial
expansion x zero m h =
    ap₂ ◌+◌ (one-mul (x ^ 0) ∙ pow-zero x) (ap (sum m) (fun_ext (λ k. zero-mul (x ^ suc k))) ∙ sum_of_zeros m) ∙ sym (pow-zero (suc x))
expansion x (suc n) zero h = absurd (not-suc-le-zero h)
expansion x (suc n) (suc m) h =
    omega (
      arith,
      pascal,
      ap (λ (s : ℕ). x * s) (expansion x n m (le_of_suc-le-suc h)),
      expansion x n (suc m) (omega arith),
      pow-suc (suc x) n,
      mul-suc (suc x ^ n) x,
      mul_comm (suc x ^ n) x,
    )
  where
    pascal : sum (suc m) (λ k. term x (suc n) (suc k)) ≡ x * sum (suc m) (term x n) + sum (suc m) (λ k. term x n (suc k))
    pascal =
        ap (sum (suc m)) (fun_ext (λ k. term_step x n k))
        ∙ sum_add (suc m) (λ k. x * term x n k) (λ k. term x n (suc k))
        ∙ ap (λ (s : ℕ). s + sum (suc m) (λ k. term x n (suc k))) (sum_times (suc m) x (term x n))

-- ---- modulo a prime
prime_divides_binomial : {l : ℕ} (prime : Prime l) (k : ℕ) → suc k < l → l ∣ binomial l (suc k)
prime_divides_binomial {l = zero} prime k h = absurd (not-suc-le-zero h)
prime_divides_binomial {l = suc n} prime k h =
    ⊎_elim (λ d. absurd (too_small (le_of_dvd (zero-lt-suc k) d))) (λ d. d)
    (prime_divides_product_ℕ (suc k) (binomial (suc n) (suc k)) prime (subst (λ (m : ℕ). suc n ∣ m) (sym (absorption n k)) (dvd-mul_right (suc n) (binomial n k))))
  where
    too_small : suc n ≤ suc k → ⊥
    too_small d = omega arith

-- (x + 1)ˡ leaves what 1 + xˡ leaves
pub power_of_sum : {l : ℕ} → Prime l → (x : ℕ) → suc x ^ l % l ≡ suc (x ^ l) % l
unfolding term sum binomial
power_of_sum {l = zero} prime x = absurd (not-suc-le-zero prime.at_least_two)
power_of_sum {l = suc n} prime x =
    ap (λ (s : ℕ). s % suc n) (sym (expansion x (suc n) (suc n) (le_refl (suc n))) ∙ split) ∙ mul-add-mod_self_left (suc n) (middle / suc n) (suc (x ^ suc n))
  where
    middle : ℕ
    middle = sum n (λ k. term x (suc n) (suc k))

    multiple : suc n * (middle / suc n) ≡ middle
    multiple = mul-div_cancel' (suc n)
        (divides_sum (suc n) n (λ k. term x (suc n) (suc k))
        (λ k h. dvd-mul_right_of_dvd (suc n) (prime_divides_binomial prime k (suc-le-suc h)) (x ^ suc k)))

    split : sum (suc (suc n)) (term x (suc n)) ≡ suc n * (middle / suc n) + suc (x ^ suc n)
    split =
        omega (
          arith,
          multiple,
          sum_last n (λ k. term x (suc n) (suc k)),
          pow-zero x,
          one-mul (x ^ 0),
          ap (λ (b : ℕ). b * x ^ suc n) (binomial_last (suc n)),
          one-mul (x ^ suc n),
        )
