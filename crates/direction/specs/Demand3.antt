-- Demand 3, as statements about the two steps over all whole numbers: from a base point, directions up to multiples and rational
-- points of the conic (infinity included) correspond one to one, and each step undoes the other. Assumes nothing.
use Rattle.std.specs.Prelude.{◌≡◌, ◌↔◌, T, pos, ◌*ℤ◌, ◌<ℤ◌}
use Rattle.point.specs.Normal.{NormalForm, NormalDirection, normal_direction}
use Rattle.point.specs.Paper.{point}
use Rattle.point.specs.Legal.{is_target, is_direction}
use Rattle.point.specs.declared.Point.{Point}
use Rattle.point.specs.declared.Direction.{Direction}
use Rattle.conic.specs.Form.{G, Δ}
use Rattle.conic.specs.Base.{LegalBase}
use Rattle.conic.specs.declared.conic.Conic.{Conic}
use Rattle.direction.specs.Direction.{direction, point_from, direction_to, tangent, point_of, direction_of}

-- a rational point of the conic, infinity included
pub record OnConic (h : Conic) (q : Point) : Type 0 where
  pub normal_form : NormalForm q
  pub on : G h q ≡ pos 0

-- a base on a non-degenerate conic; no limit is needed
pub record Based (h : Conic) (p : Point) : Type 0 where
  pub not_degenerate : ¬ (Δ h ≡ pos 0)
  pub on_conic : OnConic h p
  pub in_plane : pos 0 <ℤ p.z

-- a direction is not (0, 0)
pub record Proper (t : Direction) : Type 0 where
  pub not_both_zero : ¬ ((t.u ≡ pos 0) × (t.v ≡ pos 0))

-- uv' = u'v
pub record Multiples (t t' : Direction) : Type 0 where
  pub cross : t.u *ℤ t'.v ≡ t'.u *ℤ t.v

-- 1. the first step gives a point of the conic in normal form, the second a direction in normal form, never (0, 0)
unfoldable pub StepsAreRight : Type 0
StepsAreRight =
    (h : Conic) (p : Point) → Based h p →
    ((t : Direction) → Proper t → OnConic h (point_from h p t)) ×
    ((q : Point) → OnConic h q → NormalDirection (direction_to h p q) × Proper (direction_to h p q))

-- 2. the tangent, and only its multiples, give the base again
unfoldable pub TangentGivesBase : Type 0
TangentGivesBase =
    (h : Conic) (p : Point) → Based h p →
    Proper (tangent h p) × ((t : Direction) → Proper t → point_from h p t ≡ p ↔ Multiples t (tangent h p))

-- 3. two directions give the same point exactly if they are multiples of each other
unfoldable pub SamePointExactly : Type 0
SamePointExactly =
    (h : Conic) (p : Point) → Based h p →
    (t t' : Direction) → Proper t → Proper t' → point_from h p t ≡ point_from h p t' ↔ Multiples t t'

-- 4. each rational point comes from the direction that the second step gives, and from no other but its multiples
unfoldable pub EveryPointOnce : Type 0
EveryPointOnce =
    (h : Conic) (p : Point) → Based h p →
    (q : Point) → OnConic h q → (t : Direction) → Proper t → point_from h p t ≡ q ↔ Multiples t (direction_to h p q)

-- 5. each step undoes the other
unfoldable pub StepsUndo : Type 0
StepsUndo =
    (h : Conic) (p : Point) → Based h p →
    ((q : Point) → OnConic h q → point_from h p (direction_to h p q) ≡ q) ×
    ((t : Direction) → Proper t → Multiples t (direction_to h p (point_from h p t))) ×
    ((t : Direction) → NormalDirection t → direction_to h p (point_from h p t) ≡ t)

-- 6. a base that the entries take is one of the steps', and within the limits they give exactly what the steps give
unfoldable pub EntriesGiveSteps : Type 0
EntriesGiveSteps =
    (h : Conic) (p : Point) → LegalBase h p →
    Based h p ×
    ((t : Direction) → T (is_direction t) → point_of h p t ≡ point (point_from h p t)) ×
    ((q : Point) → T (is_target q) → G h q ≡ pos 0 → direction_of h p q ≡ direction (direction_to h p q))

-- 7. from the point that a direction gives, the second step gives the direction's normal form
unfoldable pub BackInNormalForm : Type 0
BackInNormalForm =
    (h : Conic) (p : Point) → Based h p →
    (t : Direction) → Proper t → direction_to h p (point_from h p t) ≡ normal_direction t

-- 8. each entry undoes the other, wherever what the one gives may be handed to the other
unfoldable pub EntriesUndo : Type 0
EntriesUndo =
    (h : Conic) (p : Point) → LegalBase h p →
    ((t : Direction) → T (is_direction t) → T (is_target (point_from h p t)) →
    (point_of h p t ≡ point (point_from h p t)) ×
    (direction_of h p (point_from h p t) ≡ direction (normal_direction t))) ×
    ((q : Point) → T (is_target q) → G h q ≡ pos 0 → T (is_direction (direction_to h p q)) →
    (direction_of h p q ≡ direction (direction_to h p q)) × (point_of h p (direction_to h p q) ≡ point q))
