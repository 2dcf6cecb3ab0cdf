-- The levelled equation pX² + gY² + qW² = 0 over all whole numbers: its coefficients, its solutions, the box that the paper
-- looks in, and the condition at a prime. Assumes nothing.
use Rattle.std.specs.Prelude.{◌≡◌, ◌⊎◌, ℕ, ◌*◌, ◌≤◌, ℤ, pos, neg_ℤ, nat_abs, ◌+ℤ◌, ◌*ℤ◌, ◌<ℤ◌}
use Rattle.number.specs.Divides.{◌∣ℤ◌}
use Rattle.number.specs.Gcd.{Coprime}
use Rattle.number.specs.Residue.{SquareModulo}
use Rattle.number.specs.Squarefree.{Squarefree}

-- squarefree (so not 0) and pairwise without common factor
pub record Levelled (p g q : ℤ) : Type 0 where
  pub squarefree_p : Squarefree p
  pub squarefree_g : Squarefree g
  pub squarefree_q : Squarefree q
  pub coprime_pg : Coprime p g
  pub coprime_gq : Coprime g q
  pub coprime_qp : Coprime q p

-- pX² + gY² + qW²
abbrev pub form : ℤ → ℤ → ℤ → ℤ → ℤ → ℤ → ℤ
form p g q x y w = p *ℤ (x *ℤ x) +ℤ g *ℤ (y *ℤ y) +ℤ q *ℤ (w *ℤ w)

-- a triple, not all 0, at which the form is 0
pub record Solution (p g q x y w : ℤ) : Type 0 where
  pub equation : form p g q x y w ≡ pos 0
  pub not_all_zero : ¬ ((x ≡ pos 0) × (y ≡ pos 0) × (w ≡ pos 0))

pub record Solvable (p g q : ℤ) : Type 0 where
  pub x : ℤ
  pub y : ℤ
  pub w : ℤ
  pub solution : Solution p g q x y w

-- a solution with X, Y, W ≥ 0 in the paper's box
pub record BoxSolution (p g q : ℤ) (x y w : ℕ) : Type 0 where
  pub solution : Solution p g q (pos x) (pos y) (pos w)
  pub x_within : x * x ≤ nat_abs (g *ℤ q)
  pub y_within : y * y ≤ nat_abs (p *ℤ q)
  pub w_within : w * w ≤ nat_abs (p *ℤ g)

pub record SolvableInBox (p g q : ℤ) : Type 0 where
  pub x : ℕ
  pub y : ℕ
  pub w : ℕ
  pub solution : BoxSolution p g q x y w

abbrev pub Positive : ℤ → Type 0
Positive n = pos 0 <ℤ n

abbrev pub Negative : ℤ → Type 0
Negative n = n <ℤ pos 0

abbrev pub OneSign : ℤ → ℤ → ℤ → Type 0
OneSign p g q = (Positive p × Positive g × Positive q) ⊎ (Negative p × Negative g × Negative q)

-- Legendre's condition at l: where l divides one of the three, minus the product of the other two is a square modulo l
pub record ConditionAt (l : ℕ) (p g q : ℤ) : Type 0 where
  pub at_p : pos l ∣ℤ p → SquareModulo l (neg_ℤ (g *ℤ q))
  pub at_g : pos l ∣ℤ g → SquareModulo l (neg_ℤ (p *ℤ q))
  pub at_q : pos l ∣ℤ q → SquareModulo l (neg_ℤ (p *ℤ g))
