-- The integer root of n is the one r with r² ≤ n < (r + 1)², and n is a square where that r has r² = n: squares keep the order, so
-- that two such r are equal. Assumes nothing.
use mathlib.Core.Path.{◌≡◌, refl, sym, ap, ◌∙◌, subst}
use mathlib.Core.Bool.{true}
use mathlib.Core.Logic.{◌↔◌, ⊎_elim}
use Prim.Native.Nat.{ℕ, zero, suc, ◌*◌, ◌≤◌, ◌<◌, zero-le}
use native.Mathlib.Nat.{mul-le-mul, mul-le-mul_left, mul-lt-mul_of_pos_right, lt_of_le_of_lt, lt_of_not-le, not-le_of_lt, le_antisymm, eq-or-lt_of_le, le-mul_of_pos_right, le_of_suc-le-suc, zero-lt-suc, le_refl, le_of_lt, lt-suc_self}
use native.Mathlib.Omega.{arith}
use lib.Dec.{ltb}
use borrow.Author.Tests.{ltb-true, ltb-false, eqb-true, eq-eqb}
use Rattle.number.specs.Square.{root_of, is_square}
use Rattle.number.proofs.Least.{IsLeast, least_is}

-- ---- squares keep the order, and show it
pub square-≤ : {r s : ℕ} → r ≤ s → r * r ≤ s * s
square-≤ h = mul-le-mul h h

pub square-< : {r s : ℕ} → r < s → r * r < s * s
square-< {r} {s} h = lt_of_le_of_lt (mul-le-mul_left r (le_of_lt h)) (mul-lt-mul_of_pos_right h (lt_of_le_of_lt zero-le h))

pub order_of_squares : (r s : ℕ) → r * r < s * s → r < s
order_of_squares r s h = lt_of_not-le (λ back. not-le_of_lt h (square-≤ back))

pub at_most_by_squares : {n r s : ℕ} → r * r ≤ n → n < suc s * suc s → r ≤ s
at_most_by_squares {r = r} {s} low high = le_of_suc-le-suc (order_of_squares r (suc s) (lt_of_le_of_lt low high))

-- 0 and 1 are their own squares
pub own_square : (r : ℕ) → r < 2 → r * r ≡ r
own_square zero h = refl
own_square (suc zero) h = refl
own_square (suc (suc r)) h = absurd (omega arith)

-- ---- the root
pub record IsRoot (n r : ℕ) : Type 0 where
  pub square_at_most : r * r ≤ n
  pub next_square_above : n < suc r * suc r

-- the search's number is the root: below it the test fails, and n itself has n < (n + 1)²
root_of_least : (n r : ℕ) → IsLeast (λ r. ltb n (suc r * suc r)) n r → IsRoot n r
root_of_least n r found = record { square_at_most = below r found; next_square_above = ⊎_elim at_n before_n (eq-or-lt_of_le found.at_most) }
  where
    below : (r : ℕ) → IsLeast (λ r. ltb n (suc r * suc r)) n r → r * r ≤ n
    below zero l = zero-le
    below (suc k) l = ltb-false n (suc k * suc k) (l.fails_below k (lt-suc_self k))

    at_n : r ≡ n → n < suc r * suc r
    at_n e = subst (λ (k : ℕ). k < suc r * suc r) e (le-mul_of_pos_right (suc r) (zero-lt-suc r))

    before_n : r < n → n < suc r * suc r
    before_n h = ltb-true n (suc r * suc r) (found.holds h)

pub root_is : (n : ℕ) → IsRoot n (root_of n)
unfolding root_of
root_is n = root_of_least n _ (least_is (λ r. ltb n (suc r * suc r)) n)

pub root_unique : {n r : ℕ} → IsRoot n r → r ≡ root_of n
root_unique {n} p =
    le_antisymm (at_most_by_squares p.square_at_most (root_is n).next_square_above) (at_most_by_squares (root_is n).square_at_most p.next_square_above)

pub root_law : (n r : ℕ) → IsRoot n r ↔ (r ≡ root_of n)
root_law n r = (root_unique, λ e. subst (IsRoot n) (sym e) (root_is n))

pub at_most_root : (n : ℕ) {r : ℕ} → r * r ≤ n → r ≤ root_of n
at_most_root n h = at_most_by_squares h (root_is n).next_square_above

pub root_of_square : (r : ℕ) → root_of (r * r) ≡ r
root_of_square r = sym (root_unique (record { square_at_most = le_refl (r * r); next_square_above = square-< (lt-suc_self r) }))

-- ---- squares
pub root_squared : (n : ℕ) {r : ℕ} → is_square n ≡ true → r ≡ root_of n → r * r ≡ n
unfolding is_square
root_squared n e is_root = ap (λ (k : ℕ). k * k) is_root ∙ eqb-true (root_of n * root_of n) n e

pub square_law : (n : ℕ) → (is_square n ≡ true) ↔ ((r : ℕ) × (n ≡ r * r))
unfolding is_square
square_law n =
    (λ e. (root_of n, sym (root_squared n e refl)), λ (r, e). eq-eqb (root_of n * root_of n) n (ap (λ (k : ℕ). k * k) (ap root_of e ∙ root_of_square r) ∙ sym e))
