-- The failing primes of one coefficient by trial division: the primes that were taken out of the size hold, and none below the next
-- divisor divides what is left. So the divisor is prime where it divides, and is the least prime left; and where its square passes
-- what is left, that is 1 or a prime. Assumes nothing.
use mathlib.Core.Path.{◌≡◌, sym, ap, subst, ◌∙◌}
use mathlib.Core.Logic.{◌⊎◌, inl, inr, ⊎_elim, ◌↔◌, ◌≢◌}
use mathlib.Core.Bool.{Bool, true, false, ◌&&◌, not, and-eq-true_iff}
use Prim.Native.Nat.{ℕ, suc, ◌+◌, ◌*◌, ◌/◌, ◌%◌, ◌^◌, ◌∣◌, ◌≤◌, ◌<◌}
use native.Mathlib.Nat.{le_refl, le_antisymm, eq-or-lt_of_le, mul-one, mul-le-mul, le_of_dvd, pos_of_dvd_of_pos, dvd_refl, dvd_trans, dvd_of_mod-eq-zero, mod-eq-zero_of_dvd}
use native.Mathlib.Omega.{arith}
use borrow.Author.Tests.{not-true, ltb-true, ltb-false}
use lib.Dec.{ltb}
use lib.IntN.{ℤ}
use Rattle.std.specs.Bool.{then_some}
use Rattle.std.specs.Prelude.{Some, None}
use Rattle.number.specs.Divides.{divides}
use Rattle.number.specs.Prime.{Prime, is_prime}
use Rattle.number.specs.Residue.{is_square_modulo}
use Rattle.number.proofs.Least.{not_true_of_false, false_of_not_true, true_or_false}
use Rattle.number.proofs.Divides.{divides_iff, times_quotient, divides_of_multiple}
use Rattle.number.proofs.Prime.{is_prime_iff, one_or_more, prime_not_one, prime_divides_product_ℕ}
use Rattle.number.proofs.Square.{order_of_squares}
use Rattle.number.proofs.TrialDivision.{NoDivisorBelow, at_least, fewer_divisors}
use Rattle.legendre.specs.Search.{least_below, fails}
use Rattle.legendre.proofs.Search.{Bounded, finds_equals}

-- ---- the test

pub record Fails (a : ℕ) (n : ℤ) (l : ℕ) : Type 0 where
  pub divisor : l ∣ a
  pub no_square : is_square_modulo l n ≡ false
  pub prime : Prime l

pub fails_iff : (a : ℕ) (n : ℤ) (l : ℕ) → (fails a n l ≡ true) ↔ Fails a n l
unfolding fails
fails_iff a n l = (told, λ f. outer.1 (inner.1 ((divides_iff l).1 f.divisor, ap not f.no_square), is_prime_iff.1 f.prime))
  where
    inner : (divides l a && not (is_square_modulo l n) ≡ true) ↔ ((divides l a ≡ true) × (not (is_square_modulo l n) ≡ true))
    inner = and-eq-true_iff (divides l a) (not (is_square_modulo l n))

    outer : ((divides l a && not (is_square_modulo l n)) && is_prime l ≡ true) ↔ ((divides l a && not (is_square_modulo l n) ≡ true) × (is_prime l ≡ true))
    outer = and-eq-true_iff (divides l a && not (is_square_modulo l n)) (is_prime l)

    told : (divides l a && not (is_square_modulo l n)) && is_prime l ≡ true → Fails a n l
    told e = record {
      divisor = (divides_iff l).0 (inner.0 (outer.0 e).0).0;
      no_square = not-true (is_square_modulo l n) (inner.0 (outer.0 e).0).1;
      prime = is_prime_iff.0 (outer.0 e).1;
    }

pub fails_bounded : (a : ℕ) (n : ℤ) → 0 < a → Bounded (fails a n) (suc a)
fails_bounded a n positive = record { below = λ l e. omega (arith, le_of_dvd positive ((fails_iff a n l).0 e).divisor) }

-- ---- the loop: what is left of the size, and the next divisor

abbrev pub divisor_limit : ℕ
divisor_limit = 2 ^ 16 + 1

pub record Trial (size : ℕ) (number : ℤ) (rest divisor : ℕ) : Type 0 where
  pub positive : 0 < rest
  pub part : rest ∣ size
  pub from_two : 2 ≤ divisor
  pub divisor_bound : divisor ≤ divisor_limit
  pub tried : NoDivisorBelow divisor rest
  pub passed : (l : ℕ) → Prime l → l ∣ size → (l ∣ rest) ⊎ (is_square_modulo l number ≡ true)

pub trial_start : (size : ℕ) (number : ℤ) → 0 < size → Trial size number size 2
trial_start size number positive = record {
  positive = positive;
  part = dvd_refl size;
  from_two = le_refl 2;
  divisor_bound = omega arith;
  tried = record { none = λ k two below h. omega arith };
  passed = λ l p h. inl h;
}

module _ {size : ℕ} {number : ℤ} {rest divisor : ℕ} (t : Trial size number rest divisor) (size_positive : 0 < size) where
  pub rest_at_most : rest ≤ size
  rest_at_most = le_of_dvd size_positive t.part

  -- a prime of what is left, below its other primes, that fails
  first_failing :
      (l : ℕ) → Prime l → l ∣ rest → ((k : ℕ) → Prime k → k ∣ rest → l ≤ k) → is_square_modulo l number ≡ false →
      Some l ≡ least_below (fails size number) (suc size)
  first_failing l prime h first no_square =
      finds_equals (Some l) (fails_bounded size number size_positive)
      ((fails_iff size number l).1 (record { divisor = dvd_trans l h t.part; no_square = no_square; prime = prime }), λ i below. false_of_not_true (λ e. none i below ((fails_iff size number i).0 e)))
    where
      none : (i : ℕ) → i < l → Fails size number i → ⊥
      none i below f = ⊎_elim (λ d. omega (arith, first i f.prime d)) (not_true_of_false f.no_square) (t.passed i f.prime f.divisor)

  none_failing : ((l : ℕ) → Prime l → l ∣ rest → is_square_modulo l number ≡ true) → None ≡ least_below (fails size number) (suc size)
  none_failing holds =
      finds_equals None (fails_bounded size number size_positive) (λ i. false_of_not_true (λ e. none i ((fails_iff size number i).0 e)))
    where
      none : (i : ℕ) → Fails size number i → ⊥
      none i f = not_true_of_false f.no_square (⊎_elim (holds i f.prime) (λ e. e) (t.passed i f.prime f.divisor))

  -- ---- the divisor divides what is left
  module _ (divided : rest % divisor ≡ 0) where
    divides_rest : divisor ∣ rest
    divides_rest = dvd_of_mod-eq-zero divisor divided

    pub divisor_prime : Prime divisor
    divisor_prime = record {
      at_least_two = t.from_two;
      only_divisors = λ d h. ⊎_elim inl (λ two. inr (le_antisymm (le_of_dvd divisor_positive h) (at_least d t.tried two (dvd_trans d h divides_rest)))) (one_or_more divisor_positive h);
    }
      where
        divisor_positive : 0 < divisor
        divisor_positive = omega arith

    pub divisor_fails : is_square_modulo divisor number ≡ false → Some divisor ≡ least_below (fails size number) (suc size)
    divisor_fails = first_failing divisor divisor_prime divides_rest (λ k p h. at_least k t.tried p.at_least_two h)

    pub trial_taken : is_square_modulo divisor number ≡ true → Trial size number (rest / divisor) divisor
    trial_taken holds = record {
      positive = pos_of_dvd_of_pos quotient_divides t.positive;
      part = dvd_trans (rest / divisor) quotient_divides t.part;
      from_two = t.from_two;
      divisor_bound = t.divisor_bound;
      tried = fewer_divisors quotient_divides t.tried;
      passed = λ l p h. ⊎_elim (λ d. of_divided l p (prime_divides_product_ℕ divisor (rest / divisor) p (subst (λ (n : ℕ). l ∣ n) product d))) inr (t.passed l p h);
    }
      where
        product : rest ≡ divisor * (rest / divisor)
        product = times_quotient divisor divides_rest

        quotient_divides : rest / divisor ∣ rest
        quotient_divides = divides_of_multiple (rest / divisor) divisor product

        of_divided : (l : ℕ) → Prime l → (l ∣ divisor) ⊎ (l ∣ rest / divisor) → (l ∣ rest / divisor) ⊎ (is_square_modulo l number ≡ true)
        of_divided l p (inl h) = ⊎_elim (λ one. absurd (prime_not_one p one)) (λ e. inr (rw e holds)) (divisor_prime.only_divisors l h)
        of_divided l p (inr h) = inl h

  -- ---- it does not
  pub divisor_small : size < 2 ^ 32 → divisor * divisor ≤ rest → divisor < 2 ^ 16
  divisor_small small within = order_of_squares divisor (2 ^ 16) (omega (arith, rest_at_most))

  pub trial_next : divisor < 2 ^ 16 → rest % divisor ≢ 0 → Trial size number rest (divisor + (1 + divisor % 2))
  trial_next small apart = record {
    positive = t.positive;
    part = t.part;
    from_two = omega (arith, t.from_two);
    divisor_bound = omega arith;
    tried = record { none = none };
    passed = t.passed;
  }
    where
      -- an even number above 2 is no divisor where 2 is none
      next_even : (k : ℕ) → divisor < k → k < divisor + (1 + divisor % 2) → k ∣ rest → ⊥
      next_even k more below h =
          t.tried.none 2 (le_refl 2) (omega (arith, t.from_two)) (dvd_trans 2 (dvd_of_mod-eq-zero 2 (omega arith)) h)

      none : (k : ℕ) → 2 ≤ k → k < divisor + (1 + divisor % 2) → k ∣ rest → ⊥
      none k two below h =
          ⊎_elim
          (λ e. t.tried.none k two (ltb-true k divisor e) h)
          (λ e. ⊎_elim (λ same. apart (mod-eq-zero_of_dvd divisor (rw same h))) (λ more. next_even k more below h) (eq-or-lt_of_le (ltb-false k divisor e)))
          (true_or_false (ltb k divisor))

  -- ---- its square is above what is left
  pub none_left : rest ≡ 1 → None ≡ least_below (fails size number) (suc size)
  none_left one = none_failing (λ l p h. absurd (omega (arith, le_of_dvd t.positive h, p.at_least_two)))

  module _ (above : rest < divisor * divisor) (other : rest ≢ 1) where
    pub rest_prime : Prime rest
    rest_prime = record {
      at_least_two = omega (arith, t.positive);
      only_divisors = λ d h. ⊎_elim inl (λ two. inr (all d two h)) (one_or_more t.positive h);
    }
      where
        all : (d : ℕ) → 2 ≤ d → d ∣ rest → d ≡ rest
        all d two h =
            ⊎_elim
            (λ one. sym (product ∙ ap (λ (n : ℕ). d * n) one ∙ mul-one d))
            (λ more. absurd (omega (arith, product, mul-le-mul (at_least d t.tried two h) (at_least (rest / d) t.tried more cofactor))))
            (one_or_more t.positive cofactor)
          where
            product : rest ≡ d * (rest / d)
            product = times_quotient d h

            cofactor : rest / d ∣ rest
            cofactor = divides_of_multiple (rest / d) d product

    rest_fails : is_square_modulo rest number ≡ false → Some rest ≡ least_below (fails size number) (suc size)
    rest_fails = first_failing rest rest_prime (dvd_refl rest) (λ k p h. ⊎_elim (λ one. absurd (prime_not_one p one)) (λ e. omega arith) (rest_prime.only_divisors k h))

    rest_holds : is_square_modulo rest number ≡ true → None ≡ least_below (fails size number) (suc size)
    rest_holds holds = none_failing (λ l p h. ⊎_elim (λ one. absurd (prime_not_one p one)) (λ e. rw e holds) (rest_prime.only_divisors l h))

    pub rest_decides :
        (square : Bool) → is_square_modulo rest number ≡ square →
        then_some (not square) rest ≡ least_below (fails size number) (suc size)
    rest_decides true e = rest_holds e
    rest_decides false e = rest_fails e
