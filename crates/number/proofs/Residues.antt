-- Squares modulo n: the search from 0 up decides them, since a root's remainder is a root below n. What the search
-- gives depends only on the number modulo n. Assumes nothing.
use mathlib.Core.Path.{◌≡◌, refl, sym}
use mathlib.Core.Logic.{◌↔◌}
use mathlib.Core.Bool.{Bool, true, false}
use Prim.Native.Nat.{ℕ, ◌<◌, ◌≤◌}
use native.Mathlib.Nat.{lt_of_le_of_lt}
use borrow.Author.Tests.{ltb-true, lt-ltb}
use lib.IntN.{ℤ, pos, nat_abs, ◌*ℤ◌, ◌-ℤ◌}
use Rattle.number.specs.Divides.{divides}
use Rattle.number.specs.Remainder.{remainder_of}
use Rattle.number.specs.Residue.{SquareModulo, least_root_of, is_square_modulo}
use Rattle.number.proofs.Least.{least_at_most, least_is_least, least_holds, least_same_test}
use Rattle.number.proofs.Divides.{divides_sizes_iff, one-∣ℤ}
use Rattle.number.proofs.Congruence.{Congruent, congruent_sym, congruent_trans, congruent_product, remainder_below, remainder_congruent}

-- the test of the search, for a number r
abbrev root_test : ℕ → ℤ → ℕ → Bool
root_test n m r = divides n (nat_abs (pos r *ℤ pos r -ℤ m))

passes : (n : ℕ) (m : ℤ) (r : ℕ) → Congruent (pos n) (pos r *ℤ pos r) m → root_test n m r ≡ true
passes n m r h = (divides_sizes_iff {a = pos n} {b = pos r *ℤ pos r -ℤ m}).0 h.difference

passed : (n : ℕ) (m : ℤ) (r : ℕ) → root_test n m r ≡ true → Congruent (pos n) (pos r *ℤ pos r) m
passed n m r e = record { difference = (divides_sizes_iff {a = pos n} {b = pos r *ℤ pos r -ℤ m}).1 e }

-- ---- the least root
pub least_root_is_root : {n : ℕ} {m : ℤ} → least_root_of n m < n → Congruent (pos n) (pos (least_root_of n m) *ℤ pos (least_root_of n m)) m
unfolding least_root_of
least_root_is_root {n} {m} h = passed n m (least_root_of n m) (least_holds (root_test n m) n h)

pub least_root_at_most : (n : ℕ) (m : ℤ) → least_root_of n m ≤ n
unfolding least_root_of
least_root_at_most n m = least_at_most (root_test n m) n

pub least_root_is_least : {n r : ℕ} {m : ℤ} → Congruent (pos n) (pos r *ℤ pos r) m → least_root_of n m ≤ r
unfolding least_root_of
least_root_is_least {n} {r} {m} h = least_is_least (root_test n m) n (passes n m r h)

-- ---- squares modulo n
pub square_root_congruent : {n : ℕ} {m : ℤ} → (s : SquareModulo n m) → Congruent (pos n) (s.root *ℤ s.root) m
square_root_congruent s = record { difference = s.is_root }

pub square_by_root : {n : ℕ} {m : ℤ} (r : ℤ) → Congruent (pos n) (r *ℤ r) m → SquareModulo n m
square_by_root r h = record { root = r; is_root = h.difference }

-- the root's remainder is a root
pub reduced_root : {n : ℕ} {m : ℤ} → 0 < n → (s : SquareModulo n m) → Congruent (pos n) (pos (remainder_of n s.root) *ℤ pos (remainder_of n s.root)) m
reduced_root h s =
    congruent_trans (congruent_product (remainder_congruent h s.root) (remainder_congruent h s.root)) (square_root_congruent s)

pub least_root_found : {n : ℕ} {m : ℤ} → 0 < n → SquareModulo n m → least_root_of n m < n
least_root_found h s = lt_of_le_of_lt (least_root_is_least (reduced_root h s)) (remainder_below h s.root)

pub square_of_found : {n : ℕ} {m : ℤ} → least_root_of n m < n → SquareModulo n m
square_of_found {n} {m} h = square_by_root (pos (least_root_of n m)) (least_root_is_root h)

pub is_square_modulo_iff : {n : ℕ} {m : ℤ} → 0 < n → (is_square_modulo n m ≡ true) ↔ SquareModulo n m
unfolding is_square_modulo
is_square_modulo_iff {n} {m} h =
    (λ e. square_of_found (ltb-true (least_root_of n m) n e), λ s. lt-ltb (least_root_of n m) n (least_root_found h s))

pub square_modulo_one : (m : ℤ) → SquareModulo 1 m
square_modulo_one m = record { root = pos 0; is_root = one-∣ℤ (pos 0 *ℤ pos 0 -ℤ m) }

-- the search's answer, too, depends only on the number modulo n
pub least_root_congruent : {n : ℕ} {m k : ℤ} → Congruent (pos n) m k → least_root_of n m ≡ least_root_of n k
unfolding least_root_of
least_root_congruent {n} {m} {k} h = least_same_test (λ r l. same_truth (one_way r h) (one_way r (congruent_sym h)))
  where
    one_way : {m k : ℤ} (r : ℕ) → Congruent (pos n) m k → root_test n m r ≡ true → root_test n k r ≡ true
    one_way {m} {k} r h e = passes n k r (congruent_trans (passed n m r e) h)

    same_truth : {a b : Bool} → (a ≡ true → b ≡ true) → (b ≡ true → a ≡ true) → a ≡ b
    same_truth {a = true} {b} f g = sym (f refl)
    same_truth {a = false} {b = true} f g = g refl
    same_truth {a = false} {b = false} f g = refl
