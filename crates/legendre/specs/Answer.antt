-- What the levelled equation's answer means, as statements about all whole p, g, q. Assumes nothing.
use Rattle.std.specs.Prelude.{◌≡◌, ◌⊎◌, ◌↔◌, Ok, Err, ℕ, ◌<◌, ℤ, pos, ◌*ℤ◌}
use Rattle.number.specs.Divides.{◌∣ℤ◌}
use Rattle.number.specs.Prime as Number
use Rattle.legendre.specs.Equation.{Levelled, Solvable, BoxSolution, OneSign, ConditionAt}
use Rattle.legendre.specs.Outcome.{outcome_of}
use Rattle.legendre.specs.declared.outcome.Triple.{Triple}
use Rattle.legendre.specs.declared.outcome.Reason.TheVariants.{Sign, Prime}

-- none by sign exactly if the three are of one sign
unfoldable pub SignExactly : Type 0
SignExactly = (p g q : ℤ) → outcome_of p g q ≡ Err Sign ↔ OneSign p g q

-- a solution is given exactly if there is one
unfoldable pub SolutionExactly : Type 0
SolutionExactly = (p g q : ℤ) → Levelled p g q → ((t : Triple) × (outcome_of p g q ≡ Ok t)) ↔ Solvable p g q

-- it lies in the box, and every other solution there has a greater W, or the same W and a greater X
pub record Chosen (p g q : ℤ) (t : Triple) : Type 0 where
  pub in_box : BoxSolution p g q t.x t.y t.w
  pub least : (x y w : ℕ) → BoxSolution p g q x y w → (t.w < w) ⊎ ((t.w ≡ w) × (t.x < x)) ⊎ ((t.w ≡ w) × (t.x ≡ x) × (t.y ≡ y))

unfoldable pub SolutionIsChosen : Type 0
SolutionIsChosen = (p g q : ℤ) (t : Triple) → Levelled p g q → outcome_of p g q ≡ Ok t → Chosen p g q t

-- a prime that divides one of the three, at which the condition fails, and at no smaller prime
pub record LeastFailing (p g q : ℤ) (l : ℕ) : Type 0 where
  pub prime : Number.Prime l
  pub divides_one : pos l ∣ℤ (p *ℤ g *ℤ q)
  pub fails : ¬ ConditionAt l p g q
  pub none_smaller : (m : ℕ) → m < l → Number.Prime m → ConditionAt m p g q

unfoldable pub PrimeIsLeastFailing : Type 0
PrimeIsLeastFailing = (p g q : ℤ) (l : ℕ) → outcome_of p g q ≡ Err (Prime l) → LeastFailing p g q l

unfoldable pub TwoNeverFails : Type 0
TwoNeverFails = (p g q : ℤ) → ConditionAt 2 p g q
