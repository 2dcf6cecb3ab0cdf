-- The least root modulo l of a residue a, from what a search or a candidate shows of remainders of squares: the first r from 0 up
-- with r² % l = a is the least root; modulo a prime any such r below l gives it; and none up to half of l is none. Assumes nothing.
use mathlib.Core.Path.{◌≡◌, sym, ap, ap₂, ◌∙◌}
use mathlib.Core.Bool.{Bool}
use Prim.Native.Nat.{ℕ, ◌+◌, ◌-◌, ◌*◌, ◌/◌, ◌%◌, ◌^◌, ◌<◌, ◌≤◌, ◌∣◌, min}
use native.Mathlib.Nat.{mod-eq_of_lt, add_assoc, mod-add-mod, mod-eq-sub-mod, le_of_dvd, le_refl, le_antisymm, add-mul, mul-add}
use native.Mathlib.Omega.{arith}
use borrow.Author.Tests.{lt-ltb, le-ltb}
use Rattle.std.specs.Prelude.{Some, None}
use lib.Dec.{ltb}
use lib.IntN.{ℤ, pos, ◌*ℤ◌}
use Rattle.number.specs.Prime.{Prime}
use Rattle.number.specs.Remainder.{remainder_of}
use Rattle.number.specs.Residue.{SquareModulo, least_root_of, is_square_modulo}
use Rattle.number.specs.Root.{least_if, least_root}
use Rattle.number.proofs.Least.{le_of_not_above}
use Rattle.number.proofs.Square.{own_square}
use Rattle.number.proofs.Congruence.{Congruent, congruent_of_same, same_of_congruent, remainder_congruent}
use Rattle.number.proofs.Residues.{least_root_is_least, least_root_is_root, least_root_congruent}
use Rattle.number.proofs.Fermat.{not_square_by_power}
use Rattle.number.proofs.TwoRoots.{none_up_to_half, least_root_none, least_root_of_prime}

-- a root, by remainders and as a congruence
root_of_remainder : {l a : ℕ} (r : ℕ) → a < l → r * r % l ≡ a → Congruent (pos l) (pos r *ℤ pos r) (pos a)
root_of_remainder {l} {a} r below e = congruent_of_same l (r * r) a (e ∙ sym (mod-eq_of_lt below))

remainder_of_root : {l a : ℕ} (r : ℕ) → a < l → Congruent (pos l) (pos r *ℤ pos r) (pos a) → r * r % l ≡ a
remainder_of_root {l} {a} r below h = same_of_congruent l (r * r) a h ∙ mod-eq_of_lt below

-- ---- the definition's two cases
pub least_of : {l r : ℕ} (m : ℤ) → least_root_of l m ≡ r → r < l → least_root l m ≡ Some r
unfolding least_root is_square_modulo
least_of {l} {r} m e h = ap₂ least_if (ap (λ (x : ℕ). ltb x l) e ∙ lt-ltb r l h) e

pub nothing_of : {l : ℕ} (m : ℤ) → ¬ SquareModulo l m → least_root l m ≡ None
unfolding least_root is_square_modulo
nothing_of {l} m none = ap (λ (x : ℕ). least_if (ltb x l) x) (least_root_none none) ∙ ap (λ (b : Bool). least_if b l) (le-ltb l l (le_refl l))

pub least_root_of_remainder : {l : ℕ} → 0 < l → (m : ℤ) → least_root l (pos (remainder_of l m)) ≡ least_root l m
unfolding least_root is_square_modulo
least_root_of_remainder {l} h m = ap (λ (x : ℕ). least_if (ltb x l) x) (least_root_congruent (remainder_congruent h m))

-- ---- by search
pub first_root : {l a : ℕ} (r : ℕ) → a < l → r < l → r * r % l ≡ a → ((i : ℕ) → i < r → i * i % l ≡ a → ⊥) → least_root l (pos a) ≡ Some r
first_root {l} {a} r below h root none = least_of (pos a) (le_antisymm at_most at_least) h
  where
    t : ℕ
    t = least_root_of l (pos a)

    at_most : t ≤ r
    at_most = least_root_is_least (root_of_remainder r below root)

    at_least : r ≤ t
    at_least = le_of_not_above (λ k. none t k (remainder_of_root t below (least_root_is_root (omega (arith, at_most)))))

pub no_root : {l a : ℕ} → 0 < l → a < l → ((r : ℕ) → r + r ≤ l → r * r % l ≡ a → ⊥) → least_root l (pos a) ≡ None
no_root {l} {a} positive below none = nothing_of (pos a) (none_up_to_half positive (λ r half h. none r half (remainder_of_root r below h)))

-- (r + 1)² from r², by one addition, and by one subtraction if the sum is not below l
module _ (l r s : ℕ) (squared : s ≡ r * r % l) where
  next_square : (s + 2 * r + 1) % l ≡ (r + 1) * (r + 1) % l
  next_square =
      ap (λ (x : ℕ). x % l) (ap (λ (x : ℕ). x + 2 * r + 1) squared ∙ add_assoc (r * r % l) (2 * r) 1) ∙ mod-add-mod (r * r) l (2 * r + 1)
      ∙ ap (λ (x : ℕ). x % l) sum
    where
      sum : r * r + (2 * r + 1) ≡ (r + 1) * (r + 1)
      sum = omega (arith, add-mul r 1 (r + 1), mul-add r r 1)

  pub next_square_below : s + 2 * r + 1 < l → s + 2 * r + 1 ≡ (r + 1) * (r + 1) % l
  next_square_below h = sym (mod-eq_of_lt h) ∙ next_square

  pub next_square_above : l ≤ s + 2 * r + 1 → s + 2 * r + 1 - l < l → s + 2 * r + 1 - l ≡ (r + 1) * (r + 1) % l
  next_square_above h k = sym (mod-eq_of_lt k) ∙ sym (mod-eq-sub-mod h) ∙ next_square

-- ---- modulo a prime
pub root_of_prime : {l a : ℕ} (r : ℕ) → Prime l → a < l → r < l → r * r % l ≡ a → least_root l (pos a) ≡ Some (min r (l - r))
root_of_prime {l} {a} r prime below h root = least_of (pos a) (least_root_of_prime prime h (root_of_remainder r below root)) (omega arith)

-- 0 and 1 are their own roots
pub own_root : {l : ℕ} (a : ℕ) → Prime l → a < 2 → least_root l (pos a) ≡ Some a
own_root {l} a prime small =
    root_of_prime a prime below below (ap (λ (x : ℕ). x % l) (own_square a small) ∙ mod-eq_of_lt below) ∙ ap Some (omega arith)
  where
    below : a < l
    below = omega (arith, prime.at_least_two)

-- a power to (l − 1)/2 that does not leave 1 refutes a root
pub refuted : {l a : ℕ} → Prime l → 2 ≤ a → a < l → (a ^ ((l - 1) / 2) % l ≡ 1 → ⊥) → least_root l (pos a) ≡ None
refuted {l} {a} prime not-one below differs = nothing_of (pos a) (not_square_by_power prime (omega arith) away differs)
  where
    too_large : l ≤ a → ⊥
    too_large h = omega arith

    away : l ∣ a → ⊥
    away d = too_large (le_of_dvd (omega arith) d)
