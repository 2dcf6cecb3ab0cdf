-- A test of each number below n: it fails if one of them fails, and holds if all of them do. By induction on n. Assumes nothing.
use mathlib.Core.Bool.{Bool, true, false, true≢false, ◌&&◌, and-true, and-false, and-eq-true_iff}
use mathlib.Core.List.{[], ◌∷◌, ◌++◌}
use mathlib.Core.Logic.{⊎_elim}
use mathlib.Core.Path.{◌≡◌, refl, sym, ap, ap₂, ◌∙◌}
use Prim.Native.Nat.{ℕ, zero, suc, ◌+◌, ◌<◌, ◌≤◌}
use native.Mathlib.Nat.{add-zero, zero-add, eq-or-lt_of_le, le_refl, le_step}
use native.Mathlib.Omega.{arith}
use Rattle.std.specs.List.{list_all, range_with_len}
use Rattle.std.proofs.lemmas.List.Folds.{list_all-append}
use Rattle.number.proofs.Least.{true_or_false}
use Rattle.book.specs.Reader.{every_below}

module _ (test : ℕ → Bool) where
  pub every_fails : (n : ℕ) {i : ℕ} → i < n → test i ≡ false → every_below test n ≡ false
  unfolding every_below
  every_fails zero h fails = absurd (omega arith)
  every_fails (suc n) {i} h fails =
      let at_most : i ≤ n = omega arith in
      ⊎_elim
      (λ same. ap (λ (t : Bool). every_below test n && t) (ap test (sym same) ∙ fails) ∙ and-false (every_below test n))
      (λ below. ap (λ (t : Bool). t && test n) (every_fails n below fails))
      (eq-or-lt_of_le at_most)

  pub every_gives : (n : ℕ) → every_below test n ≡ true → (i : ℕ) → i < n → test i ≡ true
  unfolding every_below
  every_gives zero e i h = absurd (omega arith)
  every_gives (suc n) e i h =
      let at_most : i ≤ n = omega arith in
      let (before, here) = (and-eq-true_iff (every_below test n) (test n)).0 e in
      ⊎_elim (λ same. ap test same ∙ here) (every_gives n before i) (eq-or-lt_of_le at_most)

  pub every_holds : (n : ℕ) → ((i : ℕ) → i < n → test i ≡ true) → every_below test n ≡ true
  unfolding every_below
  every_holds zero holds = refl
  every_holds (suc n) holds = ap₂ ◌&&◌ (every_holds n (λ i h. holds i (omega arith))) (holds n (omega arith))

  -- one of them fails
  pub every_not : (n : ℕ) → every_below test n ≡ false → (i : ℕ) × (i < n) × (test i ≡ false)
  unfolding every_below
  every_not zero e = absurd (true≢false e)
  every_not (suc n) e =
      ⊎_elim
      (λ here. let (i, below, fails) = every_not n (sym (ap (λ (t : Bool). every_below test n && t) here ∙ and-true (every_below test n)) ∙ e) in (i, le_step below, fails))
      (λ fails. (n, le_refl (suc n), fails))
      (true_or_false (test n))

-- the tests one after the other, as a list
range_last : (a n : ℕ) → range_with_len a (suc n) ≡ range_with_len a n ++ (a + n) ∷ []
range_last a zero = ap (λ (k : ℕ). k ∷ []) (sym (add-zero a))
range_last a (suc n) =
    ap (◌∷◌ a) (range_last (a + 1) n ∙ ap (λ (k : ℕ). range_with_len (a + 1) n ++ k ∷ []) (omega arith))

pub every_all : (test : ℕ → Bool) (n : ℕ) → list_all test (range_with_len 0 n) ≡ every_below test n
unfolding every_below
every_all test zero = refl
every_all test (suc n) =
    ap (list_all test) (range_last 0 n)
    ∙ list_all-append test (range_with_len 0 n) ((0 + n) ∷ [])
    ∙ ap₂ ◌&&◌ (every_all test n) (and-true (test (0 + n)) ∙ ap test (zero-add n))
