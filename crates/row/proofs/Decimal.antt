-- A number's decimal digits: the two equations, how many there are, and that they read back as the number, so that no two numbers
-- have the same. Assumes nothing.
use mathlib.Core.Path.{◌≡◌, refl, sym, ap, ◌∙◌, subst}
use mathlib.Core.List.{List, [], ◌∷◌, ◌++◌}
use Prim.Native.Nat.{ℕ, zero, suc, ◌+◌, ◌/◌, ◌%◌, ◌^◌, ◌≤◌, ◌<◌}
use native.Mathlib.Nat.{pow-suc, mod-eq_of_lt, not-suc-le-zero, le_refl}
use native.Mathlib.Omega.{arith}
use lib.Dec.{ltb}
use lib.IntN.{ℤ, pos, negsuc, nat_abs}
use lib.Signed.{le_z}
use mir.Facts.{to_z-of_z}
use Rattle.std.proofs.lemmas.Grind.{common_steps}
use mathlib.Core.Bool.{true, false}
use lib.ListN.{length, length-append}
use borrow.Author.Tests.{leb-false, ltb-true, ltb-false, lt-ltb, le-ltb}
use Rattle.point.proofs.Cases.{by_test}
use Rattle.row_reader.specs.Reading.{minus, digit_zero, value_from}
use Rattle.row_reader.proofs.Digits.{Above, above_append, value_append}
use Rattle.row.specs.Writing.{digits, decimal, signed_decimal}

-- ---- the two equations

-- one digit, or more
by_size : {P : Type 0} (n : ℕ) → (n < 10 → P) → (10 ≤ n → P) → P
by_size n small large = by_test (ltb n 10) (λ e. small (ltb-true n 10 e)) (λ e. large (ltb-false n 10 e))

digits_small : (k n : ℕ) → n < 10 → digits k n ≡ (digit_zero + n) ∷ []
unfolding digits
digits_small zero n h = ap (λ (m : ℕ). (digit_zero + m) ∷ []) (mod-eq_of_lt h)
digits_small (suc k) n h = simp (lt-ltb n 10 h)

digits_large : (k n : ℕ) → 10 ≤ n → digits (suc k) n ≡ digits k (n / 10) ++ (digit_zero + n % 10) ∷ []
unfolding digits
digits_large k n h = simp (le-ltb n 10 h)

digits_enough : (k j n : ℕ) → n ≤ k → n ≤ j → digits k n ≡ digits j n
digits_enough zero j n h i = digits_small zero n (omega arith) ∙ sym (digits_small j n (omega arith))
digits_enough (suc k) zero n h i = digits_small (suc k) n (omega arith) ∙ sym (digits_small zero n (omega arith))
digits_enough (suc k) (suc j) n h i =
    by_size n (λ s. digits_small (suc k) n s ∙ sym (digits_small (suc j) n s))
    (λ l. digits_large k n l
    ∙ ap (λ (ds : List ℕ). ds ++ (digit_zero + n % 10) ∷ []) (digits_enough k j (n / 10) (omega arith) (omega arith))
    ∙ sym (digits_large j n l))

pub decimal_small : (n : ℕ) → n < 10 → decimal n ≡ (digit_zero + n) ∷ []
unfolding decimal
decimal_small n h = digits_small n n h

pub decimal_large : (n : ℕ) → 10 ≤ n → decimal n ≡ decimal (n / 10) ++ (digit_zero + n % 10) ∷ []
unfolding decimal
decimal_large zero h = absurd (not-suc-le-zero h)
decimal_large (suc n) h =
    digits_large n (suc n) h
    ∙ ap (λ (ds : List ℕ). ds ++ (digit_zero + suc n % 10) ∷ [])
    (digits_enough n (suc n / 10) (suc n / 10) (omega arith) (omega arith))

-- ---- any number's

pub from_zero : (n : ℤ) → le_z (pos 0) n ≡ true → signed_decimal n ≡ decimal (nat_abs n)
unfolding signed_decimal
from_zero (pos n) h = refl
from_zero (negsuc n) h = cc

pub below_zero : (n : ℤ) → le_z (pos 0) n ≡ false → signed_decimal n ≡ minus ∷ decimal (nat_abs n)
unfolding signed_decimal
below_zero (pos n) h = absurd (omega (arith, leb-false 0 n h))
below_zero (negsuc n) h = refl

-- the steps of writing one
pub ruleset numbers = (common_steps, to_z-of_z, decimal_small, decimal_large, from_zero, below_zero)

-- ---- what holds of every number's digits: of one digit's, and of a tenth's with one digit more

by_digits : (P : ℕ → List ℕ → Type 0) → ((n : ℕ) → n < 10 → P n ((digit_zero + n) ∷ [])) →
    ((n : ℕ) (ds : List ℕ) → 10 ≤ n → P (n / 10) ds → P n (ds ++ (digit_zero + n % 10) ∷ [])) →
    (n : ℕ) → P n (decimal n)
by_digits P one more n = go (suc n) n (le_refl (suc n))
  where
    go : (k n : ℕ) → n < k → P n (decimal n)
    go zero n h = absurd (not-suc-le-zero h)
    go (suc k) n h =
        by_size n (λ s. subst (P n) (sym (decimal_small n s)) (one n s))
        (λ l. subst (P n) (sym (decimal_large n l)) (more n (decimal (n / 10)) l (go k (n / 10) (omega arith))))

pub decimal_length : (n k : ℕ) → n < 10 ^ suc k → length (decimal n) ≤ suc k
decimal_length = by_digits (λ n ds. (k : ℕ) → n < 10 ^ suc k → length ds ≤ suc k) (λ n s k h. omega arith) more
  where
    more :
        (n : ℕ) (ds : List ℕ) → 10 ≤ n → ((k : ℕ) → n / 10 < 10 ^ suc k → length ds ≤ suc k) →
        (k : ℕ) → n < 10 ^ suc k → length (ds ++ (digit_zero + n % 10) ∷ []) ≤ suc k
    more n ds l tenth zero h = let small : n < 10 = h in absurd (omega arith)
    more n ds l tenth (suc k) h =
        simp length-append (omega (arith, tenth k (omega (arith, rw (pow-suc 10 (suc k)) at h))))

-- the minus sign is below the digits
pub decimal_above : (n : ℕ) → Above minus (decimal n)
decimal_above =
    by_digits (λ n ds. Above minus ds) (λ n s. (omega arith, tt)) (λ n ds l h. above_append minus ds _ h (omega arith, tt))

-- ---- read back

pub decimal_value : (n : ℕ) → value_from 0 (decimal n) ≡ n
unfolding value_from
decimal_value = by_digits (λ n ds. value_from 0 ds ≡ n) one more
  where
    one : (n : ℕ) → n < 10 → value_from 0 ((digit_zero + n) ∷ []) ≡ n
    one n s = omega arith

    more : (n : ℕ) (ds : List ℕ) → 10 ≤ n → value_from 0 ds ≡ n / 10 → value_from 0 (ds ++ (digit_zero + n % 10) ∷ []) ≡ n
    more n ds l tenth = value_append 0 ds (digit_zero + n % 10) ∙ omega (arith, tenth)

pub decimal_injective : {m n : ℕ} → decimal m ≡ decimal n → m ≡ n
decimal_injective {m} {n} e = sym (decimal_value m) ∙ ap (value_from 0) e ∙ decimal_value n
