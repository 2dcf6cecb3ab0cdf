-- Demand 3 holds: all of it follows from the two steps undoing each other up to the normal form of the direction, since multiples are
-- the directions with one normal form. Assumes nothing.
use mathlib.Core.Path.{◌≡◌, refl, sym, ap, ap₂, ◌∙◌, subst}
use mathlib.Core.Logic.{◌↔◌}
use mathlib.Core.Bool.{true, false, cond}
use Prim.Native.Nat.{ℕ}
use Rattle.number.proofs.Least.{true_of_T}
use Rattle.point.specs.Paper.{point, refusal, is_zero}
use Rattle.point.specs.Legal.{is_base, is_target, is_direction}
use Rattle.point.specs.declared.Point.{Point}
use Rattle.point.specs.declared.Direction.{Direction}
use Rattle.point.specs.Asked.{TargetExactly, DirectionExactly}
use Rattle.point.proofs.Tests.{is_zero_iff, is_zero_not}
use Rattle.point.proofs.Asked.{target_exactly, direction_exactly}
use Rattle.conic.specs.Form.{G, Δ}
use Rattle.conic.specs.Base.{in_range, from_base, LegalBase}
use Rattle.conic.specs.declared.conic.Conic.{Conic}
use Rattle.direction.specs.Direction.{direction, no_direction, point_from, direction_to, tangent, point_of, direction_of}
use Rattle.direction.specs.Demand3.{OnConic, Based, Proper, Multiples, StepsAreRight, TangentGivesBase, SamePointExactly, EveryPointOnce, StepsUndo, EntriesGiveSteps, BackInNormalForm, EntriesUndo}
use Rattle.direction.proofs.Directions.{normal_direction_proper, normal_direction_of_normal, multiples_iff}
use Rattle.direction.proofs.Tests.{legal_is_based}
use Rattle.direction.proofs.Steps.{tangent_is_proper, point_from_on, direction_to_normal, point_from_normal_direction, point_from_tangent, point_from_direction_to, direction_to_point_from}

-- ---- the steps

module _ (h : Conic) (p : Point) (base : Based h p) where
  direction_proper : (q : Point) → OnConic h q → Proper (direction_to h p q)
  direction_proper q on = normal_direction_proper (direction_to_normal h p base q on)

  same_point_iff : (t t' : Direction) → Proper t → Proper t' → point_from h p t ≡ point_from h p t' ↔ Multiples t t'
  same_point_iff t t' f g = (
    λ e.
        (multiples_iff f g).1
        (sym (direction_to_point_from h p base t f) ∙ ap (direction_to h p) e ∙ direction_to_point_from h p base t' g),
    λ m.
        sym (point_from_normal_direction h p base t f) ∙ ap (point_from h p) ((multiples_iff f g).0 m)
        ∙ point_from_normal_direction h p base t' g,
  )

  -- the same for a point that is known to come from t'
  point_iff : {q : Point} (t t' : Direction) → Proper t → Proper t' → point_from h p t' ≡ q → point_from h p t ≡ q ↔ Multiples t t'
  point_iff t t' f g e = subst (λ r. point_from h p t ≡ r ↔ Multiples t t') e (same_point_iff t t' f g)

pub steps_are_right : StepsAreRight
unfolding StepsAreRight
steps_are_right h p base =
    (point_from_on h p base, λ q on. (direction_to_normal h p base q on, direction_proper h p base q on))

pub tangent_gives_base : TangentGivesBase
unfolding TangentGivesBase
tangent_gives_base h p base = (
  tangent_is_proper h p base,
  λ t f. point_iff h p base t (tangent h p) f (tangent_is_proper h p base) (point_from_tangent h p base),
)

pub same_point_exactly : SamePointExactly
unfolding SamePointExactly
same_point_exactly h p base = same_point_iff h p base

pub every_point_once : EveryPointOnce
unfolding EveryPointOnce
every_point_once h p base q on t f =
    point_iff h p base t (direction_to h p q) f (direction_proper h p base q on) (point_from_direction_to h p base q on)

pub steps_undo : StepsUndo
unfolding StepsUndo EveryPointOnce
steps_undo h p base = (
  point_from_direction_to h p base,
  λ t f. (every_point_once h p base (point_from h p t) (point_from_on h p base t f) t f).0 refl,
  λ t n. direction_to_point_from h p base t (normal_direction_proper n) ∙ normal_direction_of_normal n,
)

pub back_in_normal_form : BackInNormalForm
unfolding BackInNormalForm
back_in_normal_form = direction_to_point_from

-- ---- the entries

past_base : {A : Type 0} (refuse : ℕ → A) (h : Conic) (p : Point) (next : A) → LegalBase h p → from_base refuse h p next ≡ next
unfolding from_base
past_base refuse h p next l = λ i.
    cond (in_range_lem i)
    (cond (not_degenerate i) (refuse 2) (cond (legal i) (cond (on i) next (refuse 6)) (refuse 5)))
    (refuse 1)
  where
    in_range_lem : in_range h ≡ true
    in_range_lem = true_of_T (in_range h) l.in_range

    not_degenerate : is_zero (Δ h) ≡ false
    not_degenerate = is_zero_not l.not_degenerate

    legal : is_base p ≡ true
    legal = true_of_T (is_base p) l.legal

    on : is_zero (G h p) ≡ true
    on = is_zero_iff.1 l.on

pub entries_give_steps : EntriesGiveSteps
unfolding EntriesGiveSteps point_of direction_of
entries_give_steps h p l = (
  legal_is_based l,
  λ t d.
      past_base refusal h p _ l
      ∙ ap (λ b. cond b (point (point_from h p t)) (refusal 7)) (true_of_T (is_direction t) d),
  λ q d on.
      past_base no_direction h p _ l
      ∙ ap₂ (λ b c. cond b (cond c (direction (direction_to h p q)) (no_direction 9)) (no_direction 8))
      (true_of_T (is_target q) d) (is_zero_iff.1 on),
)

pub entries_undo : EntriesUndo
unfolding EntriesUndo EntriesGiveSteps TargetExactly DirectionExactly
entries_undo h p l =
    let (base, point_given, direction_given) = entries_give_steps h p l in (
      λ t d target.
          let proper : Proper t = record { not_both_zero = ((direction_exactly t).0 d).not_both_zero } in (
            point_given t d,
            direction_given (point_from h p t) target (point_from_on h p base t proper).on
                ∙ ap direction (direction_to_point_from h p base t proper),
          ),
      λ q target on d.
          let on_conic : OnConic h q = record { normal_form = ((target_exactly q).0 target).normal_form; on = on } in (
            direction_given q target on,
            point_given (direction_to h p q) d ∙ ap point (point_from_direction_to h p base q on_conic),
          ),
    )
