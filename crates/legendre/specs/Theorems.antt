-- Legendre's theorem and Holzer's bound, as statements about all whole numbers. Assumes nothing.
use Rattle.std.specs.Prelude.{◌↔◌, ℕ, ℤ}
use Rattle.number.specs.Prime.{Prime}
use Rattle.legendre.specs.Equation.{Levelled, Solvable, SolvableInBox, OneSign, ConditionAt}

-- levelled and not all of one sign: solvable exactly if the condition holds at every prime
unfoldable pub Legendre : Type 0
Legendre = (p g q : ℤ) → Levelled p g q → ¬ OneSign p g q → Solvable p g q ↔ ((l : ℕ) → Prime l → ConditionAt l p g q)

-- all of one sign: not solvable
unfoldable pub NoneBySign : Type 0
NoneBySign = (p g q : ℤ) → OneSign p g q → ¬ Solvable p g q

-- levelled and solvable: the box holds a solution
unfoldable pub Holzer : Type 0
Holzer = (p g q : ℤ) → Levelled p g q → Solvable p g q → SolvableInBox p g q
