-- The refusals of the two entries, by the paper's causes: those of the base that both share, then 7 for a direction, 8
-- and 9 for a target. Assumes nothing.
use Rattle.std.specs.Prelude.{◌≡◌, ◌↔◌, ℕ, T, pos}
use Rattle.point.specs.Paper.{refusal}
use Rattle.point.specs.Legal.{is_target, is_direction}
use Rattle.point.specs.declared.Point.{Point}
use Rattle.point.specs.declared.Direction.{Direction}
use Rattle.conic.specs.Base.{LegalBase}
use Rattle.conic.specs.Form.{G}
use Rattle.conic.specs.Refusals.{BaseCause}
use Rattle.conic.specs.declared.conic.Conic.{Conic}
use Rattle.direction.specs.Direction.{no_direction, point_of, direction_of}

-- why a number is given for a direction: 1, 2, 5, 6, or 7
pub data PointCause (h : Conic) (p : Point) (t : Direction) : ℕ → Type 0 where
  base_refused : {n : ℕ} → BaseCause h p n → PointCause h p t n
  not_direction : LegalBase h p → ¬ T (is_direction t) → PointCause h p t 7

-- why a number is given for a target: 1, 2, 5, 6, or 8, 9
pub data DirectionCause (h : Conic) (p q : Point) : ℕ → Type 0 where
  base_refused : {n : ℕ} → BaseCause h p n → DirectionCause h p q n
  not_target : LegalBase h p → ¬ T (is_target q) → DirectionCause h p q 8
  target_off : LegalBase h p → T (is_target q) → ¬ (G h q ≡ pos 0) → DirectionCause h p q 9

-- a number is given exactly for its cause, and no other number is given
unfoldable pub PointRefusesExactly : Type 0
PointRefusesExactly = (h : Conic) (p : Point) (t : Direction) (n : ℕ) → point_of h p t ≡ refusal n ↔ PointCause h p t n

unfoldable pub DirectionRefusesExactly : Type 0
DirectionRefusesExactly =
    (h : Conic) (p q : Point) (n : ℕ) → direction_of h p q ≡ no_direction n ↔ DirectionCause h p q n
