-- The paper's limits, its refusal numbers, and what an answer about a conic says. Assumes nothing.
use Rattle.std.specs.Prelude.{Bool, ◌&&◌, ℕ, leb, eqb, ℤ, nat_abs}
use Rattle.point.specs.declared.paper.Refusal.{Refusal}
use Rattle.point.specs.declared.Point.{Point}
use Rattle.point.specs.declared.Direction.{Direction}

-- Numbers that limit

abbrev pub coefficient_limit : ℕ
coefficient_limit = 40

abbrev pub point_limit : ℕ
point_limit = 160_000_000

abbrev pub direction_limit : ℕ
direction_limit = 10_000

unfoldable pub within : ℕ → ℤ → Bool
within n m = leb (nat_abs m) n

unfoldable pub is_zero : ℤ → Bool
is_zero n = eqb (nat_abs n) 0

unfoldable pub point_in_limit : Point → Bool
point_in_limit p = within point_limit p.x && within point_limit p.y && within point_limit p.z

unfoldable pub direction_in_limit : Direction → Bool
direction_in_limit t = within direction_limit t.u && within direction_limit t.v

-- Refusal numbers

abbrev pub number : Refusal → ℕ
number Refusal.Range = 1
number Refusal.Degenerate = 2
number Refusal.Base = 5
number Refusal.BaseOff = 6
number Refusal.Direction = 7
number Refusal.Target = 8
number Refusal.TargetOff = 9
number Refusal.Row = 10
number Refusal.Buffer = 11
number Refusal.Layout = 12
number Refusal.Body = 13
number Refusal.Room = 14
number Refusal.List = 15
number Refusal.Number = 16

-- Answers

-- a point, none with its reason, or a refusal by its number
pub data Verdict : Type 0 where
  point : Point → Verdict
  none_by_sign : Verdict
  none_by_prime : ℕ → Verdict
  refusal : ℕ → Verdict
