-- The walk of the box: what a row has passed, and what the rows have. Each step adds one place, or one row, to those
-- that were passed, and a row ends at the side of the box. Assumes nothing.
use mathlib.Core.Path.{◌≡◌, subst}
use mathlib.Core.Logic.{⊎_elim}
use Prim.Native.Nat.{ℕ, ◌+◌, ◌≤◌, ◌<◌}
use native.Mathlib.Nat.{eq-or-lt_of_le, le_of_suc-le-suc}
use native.Mathlib.Omega.{arith}
use lib.IntN.{ℤ}
use Rattle.legendre.specs.Equation.{BoxSolution}
use Rattle.legendre.specs.Outcome.{side}
use Rattle.legendre.proofs.Choice.{within_side_iff}

-- of what is below n + 1, what is below n and n itself
below_or_last : {A : Type 0} {i n : ℕ} → i < n + 1 → (i < n → A) → (i ≡ n → A) → A
below_or_last {i} {n} h below last = ⊎_elim last below (eq-or-lt_of_le (le_of_suc-le-suc (omega arith)))

-- ---- one row

-- no solution of the box with this W and a smaller X
pub record NoneBefore (p g q : ℤ) (w x : ℕ) : Type 0 where
  pub none : (a b : ℕ) → a < x → ¬ BoxSolution p g q a b w

pub row_start : (p g q : ℤ) (w : ℕ) → NoneBefore p g q w 0
row_start p g q w = record { none = λ a b h. absurd (omega arith) }

pub row_next : {p g q : ℤ} {w x : ℕ} → NoneBefore p g q w x → ((y : ℕ) → ¬ BoxSolution p g q x y w) → NoneBefore p g q w (x + 1)
row_next {p} {g} {q} {w} before here = record {
  none = λ a b h there. below_or_last h (λ less. before.none a b less there) (λ same. here b (subst (λ (n : ℕ). BoxSolution p g q n b w) same there));
}

-- the row ends at the side of the box
pub row_end : {p g q : ℤ} {w x : ℕ} → NoneBefore p g q w x → side g q ≤ x → (a b : ℕ) → ¬ BoxSolution p g q a b w
row_end {g} {q} {x} before end a b there = before.none a b (omega (arith, (within_side_iff g q).1 there.x_within)) there

-- ---- the rows

-- no solution of the box with a smaller W
pub record NoneAbove (p g q : ℤ) (w : ℕ) : Type 0 where
  pub none : (a b c : ℕ) → c < w → ¬ BoxSolution p g q a b c

pub rows_start : (p g q : ℤ) → NoneAbove p g q 0
rows_start p g q = record { none = λ a b c h. absurd (omega arith) }

pub rows_next : {p g q : ℤ} {w : ℕ} → NoneAbove p g q w → ((a b : ℕ) → ¬ BoxSolution p g q a b w) → NoneAbove p g q (w + 1)
rows_next {p} {g} {q} above here = record {
  none = λ a b c h there. below_or_last h (λ less. above.none a b c less there) (λ same. here a b (subst (BoxSolution p g q a b) same there));
}
