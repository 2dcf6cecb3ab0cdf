-- What a search finds, told by the test alone: the least number at which it holds, or that it holds nowhere. Two searches' smaller find
-- is what a search for either finds. Assumes nothing.
use mathlib.Core.Path.{◌≡◌, sym, ◌∙◌}
use mathlib.Core.Logic.{inl, inr, ⊎_elim}
use mathlib.Core.Bool.{Bool, true, false, ◌||◌, cond}
use Prim.Native.Nat.{ℕ, min, ◌≤◌, ◌<◌}
use native.Mathlib.Nat.{eq-or-lt_of_le, min-eq_left, min-eq_right, le_of_lt}
use native.Mathlib.Omega.{arith}
use borrow.Author.Tests.{lt-ltb, le-ltb, ltb-true, ltb-false}
use lib.Dec.{ltb}
use Rattle.std.specs.Prelude.{Option, Some, None}
use Rattle.number.specs.Least.{least}
use Rattle.number.proofs.Least.{least_equals, least_none, least_holds, fails_below_least, least_at_most, true_or_false, not_true_of_false, false_of_not_true}
use Rattle.legendre.specs.Search.{least_below, smaller_of}
use Rattle.legendre.proofs.Tests.{either_iff}

-- ---- below a bound

pub found_below : {test : ℕ → Bool} {n l : ℕ} → l < n → test l ≡ true → ((i : ℕ) → i < l → test i ≡ false) → Some l ≡ least_below test n
unfolding least_below
found_below {test} {n} {l} below holds fails_below = sym (rw (is_least, lt-ltb l n below))
  where
    is_least : least test n ≡ l
    is_least = least_equals record { at_most = omega arith; holds = λ h. holds; fails_below = fails_below }

pub nothing_below : {test : ℕ → Bool} {n : ℕ} → ((i : ℕ) → i < n → test i ≡ false) → None ≡ least_below test n
unfolding least_below
nothing_below {test} {n} none = sym (rw (least_none none, le-ltb n n (omega arith)))

-- ---- with no bound

pub record Bounded (test : ℕ → Bool) (n : ℕ) : Type 0 where
  pub below : (l : ℕ) → test l ≡ true → l < n

abbrev pub Finds : (ℕ → Bool) → Option ℕ → Type 0
Finds test (Some l) = (test l ≡ true) × ((i : ℕ) → i < l → test i ≡ false)
Finds test None = (i : ℕ) → test i ≡ false

pub finds_equals : {test : ℕ → Bool} {n : ℕ} (found : Option ℕ) → Bounded test n → Finds test found → found ≡ least_below test n
finds_equals (Some l) bound f = found_below (bound.below l f.0) f.0 f.1
finds_equals None bound f = nothing_below (λ i h. f i)

pub least_below_finds : (test : ℕ → Bool) (n : ℕ) → Bounded test n → Finds test (least_below test n)
unfolding least_below
least_below_finds test n bound = ⊎_elim none found (eq-or-lt_of_le (least_at_most test n))
  where
    found : least test n < n → Finds test (cond (ltb (least test n) n) (Some (least test n)) None)
    found h = rw (lt-ltb (least test n) n h) (least_holds test n h, fails_below_least test n)

    none : least test n ≡ n → Finds test (cond (ltb (least test n) n) (Some (least test n)) None)
    none h = rw (le-ltb (least test n) n (omega arith)) (λ i. false_of_not_true (λ e. not_true_of_false (fails_below_least test n i (omega (arith, bound.below i e))) e))

abbrev Either : (ℕ → Bool) → (ℕ → Bool) → ℕ → Bool
Either s t l = s l || t l

neither : {a b : Bool} → a ≡ false → b ≡ false → (a || b) ≡ false
neither e f = rw (e, f)

pub finds_smaller : (s t : ℕ → Bool) (a b : Option ℕ) → Finds s a → Finds t b → Finds (λ l. s l || t l) (smaller_of a b)
finds_smaller s t None None f h = λ i. neither (f i) (h i)
finds_smaller s t None (Some m) f h = ((either_iff (s m) (t m)).1 (inr h.0), λ i below. neither (f i) (h.1 i below))
finds_smaller s t (Some l) None f h = ((either_iff (s l) (t l)).1 (inl f.0), λ i below. neither (f.1 i below) (h i))
finds_smaller s t (Some l) (Some m) f h = ⊎_elim first second (true_or_false (ltb l m))
  where
    first : ltb l m ≡ true → Finds (Either s t) (Some (min l m))
    first e =
        let less : l < m = ltb-true l m e in
        rw (min-eq_left (le_of_lt less)) ((either_iff (s l) (t l)).1 (inl f.0), λ i below. neither (f.1 i below) (h.1 i (omega arith)))

    second : ltb l m ≡ false → Finds (Either s t) (Some (min l m))
    second e =
        let more : m ≤ l = ltb-false l m e in
        rw (min-eq_right more) ((either_iff (s m) (t m)).1 (inr h.0), λ i below. neither (f.1 i (omega arith)) (h.1 i below))

pub bounded_either : {s t : ℕ → Bool} {m n k : ℕ} → Bounded s m → Bounded t n → m ≤ k → n ≤ k → Bounded (λ l. s l || t l) k
bounded_either {s} {t} first second m≤k n≤k = record {
  below = λ l e. ⊎_elim (λ h. omega (arith, first.below l h)) (λ h. omega (arith, second.below l h)) ((either_iff (s l) (t l)).0 e);
}

pub bounded_same : {s t : ℕ → Bool} {n : ℕ} → ((l : ℕ) → s l ≡ t l) → Bounded s n → Bounded t n
bounded_same same bound = record { below = λ l e. bound.below l (same l ∙ e) }

pub finds_same : (s t : ℕ → Bool) (a : Option ℕ) → ((l : ℕ) → s l ≡ t l) → Finds s a → Finds t a
finds_same s t (Some l) same f = (sym (same l) ∙ f.0, λ i h. sym (same i) ∙ f.1 i h)
finds_same s t None same f = λ i. sym (same i) ∙ f i
