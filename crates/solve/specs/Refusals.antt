-- The refusals of solve, by the paper's causes: a coefficient out of range, 1, or Δ = 0, 2. Assumes nothing.
use Rattle.std.specs.Prelude.{◌↔◌, ◌≡◌, ℕ, pos}
use Rattle.point.specs.Paper.{refusal}
use Rattle.conic.specs.Form.{Δ}
use Rattle.conic.specs.Sizes.{InLimit}
use Rattle.conic.specs.declared.conic.Conic.{Conic}
use Rattle.solve.specs.Solve.{solve_of}

-- why a number is given for a conic
pub data ConicCause (h : Conic) : ℕ → Type 0 where
  out_of_range : ¬ InLimit h → ConicCause h 1
  degenerate : InLimit h → Δ h ≡ pos 0 → ConicCause h 2

-- a number is given exactly for its cause, and no other number is given
unfoldable pub SolveRefusesExactly : Type 0
SolveRefusesExactly = (h : Conic) (n : ℕ) → solve_of h ≡ refusal n ↔ ConicCause h n
