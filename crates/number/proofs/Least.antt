-- The laws of `least` and `greatest`: what the number found tells of the tests; and the least is the one number of its kind, so that
-- whatever else meets the same description is equal to it. By induction on how many numbers the search tries. A test that holds is
-- `test i ≡ true`, one that fails `test i ≡ false`. Assumes nothing.
use mathlib.Core.Path.{◌≡◌, refl, sym, ◌∙◌, subst}
use mathlib.Core.Logic.{◌⊎◌, inl, inr, ⊎_elim}
use mathlib.Core.Bool.{Bool, true, false, true≢false}
use Prim.Native.Nat.{ℕ, zero, suc, ◌+◌, ◌≤◌, ◌<◌}
use native.Mathlib.Nat.{eq-or-lt_of_le, le_antisymm, lt_irrefl, not-le_of_lt}
use native.Mathlib.Omega.{arith}
use lib.Dec.{T}
use Rattle.number.specs.Least.{first_from, least, greatest}

-- ---- tests, and the type T of a test that holds
pub true_of_T : (b : Bool) → T b → b ≡ true
true_of_T true h = refl
true_of_T false h = absurd h

pub T-of-true : {b : Bool} → b ≡ true → T b
T-of-true e = subst T (sym e) tt

pub false_of_not_true : {b : Bool} → (b ≡ true → ⊥) → b ≡ false
false_of_not_true {b = true} h = absurd (h refl)
false_of_not_true {b = false} h = refl

pub not_true_of_false : {b : Bool} → b ≡ false → b ≡ true → ⊥
not_true_of_false f t = true≢false (sym t ∙ f)

-- a test holds or fails, with the equation
pub true_or_false : (b : Bool) → (b ≡ true) ⊎ (b ≡ false)
true_or_false true = inl refl
true_or_false false = inr refl

-- ---- the order of ℕ, by what is not above
pub le_of_not_above : {a b : ℕ} → (b < a → ⊥) → a ≤ b
le_of_not_above h = omega arith

-- ---- the least
pub record IsLeast (test : ℕ → Bool) (n r : ℕ) : Type 0 where
  pub at_most : r ≤ n
  pub holds : r < n → test r ≡ true
  pub fails_below : (i : ℕ) → i < r → test i ≡ false

record IsFirst (test : ℕ → Bool) (n i r : ℕ) : Type 0 where
  from : i ≤ r
  up_to : r ≤ i + n
  here : r < i + n → test r ≡ true
  none : (k : ℕ) → i ≤ k → k < r → test k ≡ false

first_from_is : (test : ℕ → Bool) (n i : ℕ) → IsFirst test n i (first_from test n i)
unfolding first_from
first_from_is test zero i =
    record {
      from = omega arith;
      up_to = omega arith;
      here = λ h. absurd (not-le_of_lt h (omega arith));
      none = λ k h l. absurd (not-le_of_lt l h);
    }
first_from_is test (suc n) i = by_test (test i) refl (first_from_is test n (suc i))
  where
    later : IsFirst test n (suc i) (first_from test n (suc i)) → test i ≡ false → IsFirst test (suc n) i (first_from test n (suc i))
    later f e =
        let above : suc i ≤ first_from test n (suc i) = f.from in
        let below : first_from test n (suc i) ≤ suc i + n = f.up_to in
        record {
          from = omega arith;
          up_to = omega arith;
          here = λ h. f.here (omega arith);
          none = λ k h l. ⊎_elim (λ same. subst (λ (j : ℕ). test j ≡ false) same e) (λ more. f.none k more l) (eq-or-lt_of_le h);
        }

    by_test : (b : Bool) → test i ≡ b → IsFirst test n (suc i) (first_from test n (suc i)) → IsFirst test (suc n) i (elim b [ true ↦ i | false ↦ first_from test n (suc i) ])
    by_test true e f =
        record { from = omega arith; up_to = omega arith; here = λ h. e; none = λ k h l. absurd (not-le_of_lt l h) }
    by_test false e f = later f e

pub least_is : (test : ℕ → Bool) (n : ℕ) → IsLeast test n (least test n)
unfolding least
least_is test n =
    let first : IsFirst test n 0 (first_from test n 0) = first_from_is test n 0 in
    record {
      at_most = omega (arith, first.up_to);
      holds = λ h. first.here (omega arith);
      fails_below = λ i l. first.none i (omega arith) l;
    }

pub least_unique : {test : ℕ → Bool} {n r s : ℕ} → IsLeast test n r → IsLeast test n s → r ≡ s
least_unique {test} {n} p q = le_antisymm (not_above p q) (not_above q p)
  where
    not_above : {x y : ℕ} → IsLeast test n x → IsLeast test n y → x ≤ y
    not_above {x} {y} f g = le_of_not_above (λ above. not_true_of_false (f.fails_below y above) (g.holds (omega arith)))

pub least_at_most : (test : ℕ → Bool) (n : ℕ) → least test n ≤ n
least_at_most test n = (least_is test n).at_most

pub least_holds : (test : ℕ → Bool) (n : ℕ) → least test n < n → test (least test n) ≡ true
least_holds test n = (least_is test n).holds

pub fails_below_least : (test : ℕ → Bool) (n i : ℕ) → i < least test n → test i ≡ false
fails_below_least test n = (least_is test n).fails_below

pub least_is_least : (test : ℕ → Bool) (n : ℕ) {i : ℕ} → test i ≡ true → least test n ≤ i
least_is_least test n {i} e = le_of_not_above (λ above. not_true_of_false (fails_below_least test n i above) e)

-- found: the test holds somewhere below n
pub least_found : (test : ℕ → Bool) {n i : ℕ} → i < n → test i ≡ true → least test n < n
least_found test {n} {i} l e = omega (arith, least_is_least test n {i = i} e)

-- not found
pub least_none : {test : ℕ → Bool} {n : ℕ} → ((i : ℕ) → i < n → test i ≡ false) → least test n ≡ n
least_none {test} {n} none =
    least_unique (least_is test n)
    record { at_most = omega arith; holds = λ h. absurd (lt_irrefl n h); fails_below = none }

pub fails_below_bound : (test : ℕ → Bool) {n : ℕ} → least test n ≡ n → (i : ℕ) → i < n → test i ≡ false
fails_below_bound test {n} e i l = fails_below_least test n i (omega arith)

pub least_equals : {test : ℕ → Bool} {n r : ℕ} → IsLeast test n r → least test n ≡ r
least_equals {test} {n} p = least_unique (least_is test n) p

-- only the tests below n count
pub least_same_test : {test other : ℕ → Bool} {n : ℕ} → ((i : ℕ) → i < n → test i ≡ other i) → least test n ≡ least other n
least_same_test {test} {other} {n} same =
    let bound : least other n ≤ n = least_at_most other n in
    least_equals
    record {
      at_most = bound;
      holds = λ h. same (least other n) h ∙ least_holds other n h;
      fails_below = λ i l. same i (omega arith) ∙ fails_below_least other n i l;
    }

-- ---- the greatest
pub record IsGreatest (test : ℕ → Bool) (n r : ℕ) : Type 0 where
  pub at_most : r ≤ n
  pub holds : 0 < r → test r ≡ true
  pub fails_above : (i : ℕ) → r < i → i ≤ n → test i ≡ false

pub greatest_is : (test : ℕ → Bool) (n : ℕ) → IsGreatest test n (greatest test n)
unfolding greatest
greatest_is test zero =
    record {
      at_most = omega arith;
      holds = λ h. absurd (not-le_of_lt h (omega arith));
      fails_above = λ i h l. absurd (not-le_of_lt h l);
    }
greatest_is test (suc n) = by_test (test (suc n)) refl (greatest_is test n)
  where
    lower : IsGreatest test n (greatest test n) → test (suc n) ≡ false → IsGreatest test (suc n) (greatest test n)
    lower f e =
        record {
          at_most = omega arith;
          holds = f.holds;
          fails_above = λ i h l. ⊎_elim (λ same. subst (λ (j : ℕ). test j ≡ false) (sym same) e) (λ less. f.fails_above i h (omega arith)) (eq-or-lt_of_le l);
        }

    by_test : (b : Bool) → test (suc n) ≡ b → IsGreatest test n (greatest test n) → IsGreatest test (suc n) (elim b [ true ↦ suc n | false ↦ greatest test n ])
    by_test true e f = record { at_most = omega arith; holds = λ h. e; fails_above = λ i h l. absurd (not-le_of_lt h l) }
    by_test false e f = lower f e

pub greatest_at_most : (test : ℕ → Bool) (n : ℕ) → greatest test n ≤ n
greatest_at_most test n = (greatest_is test n).at_most

pub greatest_holds : (test : ℕ → Bool) (n : ℕ) → 0 < greatest test n → test (greatest test n) ≡ true
greatest_holds test n = (greatest_is test n).holds

pub fails_above_greatest : (test : ℕ → Bool) (n i : ℕ) → greatest test n < i → i ≤ n → test i ≡ false
fails_above_greatest test n = (greatest_is test n).fails_above

pub greatest_is_greatest : (test : ℕ → Bool) {n i : ℕ} → i ≤ n → test i ≡ true → i ≤ greatest test n
greatest_is_greatest test {n} {i} l e = le_of_not_above (λ above. not_true_of_false (fails_above_greatest test n i above l) e)
