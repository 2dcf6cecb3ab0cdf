-- Each cause gives its number, and every direction or target is answered or has a cause for its number, by what the
-- base is judged and then test by test. Assumes nothing.
use mathlib.Core.Path.{◌≡◌, refl, sym, subst}
use Prim.Native.Nat.{ℕ}
use Rattle.number.proofs.Least.{true_of_T, T-of-true}
use Rattle.point.specs.Legal.{is_target, is_direction}
use Rattle.point.specs.Paper.{Verdict, point, none_by_sign, none_by_prime, refusal, is_zero}
use Rattle.point.specs.declared.Point.{Point}
use Rattle.point.specs.declared.Direction.{Direction}
use Rattle.point.proofs.Cases.{by_test}
use Rattle.point.proofs.Tests.{is_zero_not, not_zero_of_false}
use Rattle.conic.specs.Base.{Judgement, legal, refused, judged_of}
use Rattle.conic.specs.Form.{G}
use Rattle.conic.specs.declared.conic.Conic.{Conic}
use Rattle.conic.proofs.Refusals.{fails, refutes, is_judged, is_refused, Reason, reason}
use Rattle.direction.specs.Direction.{Bearing, direction, no_direction, point_of, direction_of}
use Rattle.direction.specs.Refusals.{PointCause, DirectionCause, base_refused, not_direction, not_target, target_off, PointRefusesExactly, DirectionRefusesExactly}
use Rattle.direction.proofs.Entries.{point_refused, point_no_direction, point_reached, direction_refused, direction_no_target, direction_target_off, direction_found}

-- ---- direction to point

module _ (h : Conic) (p : Point) (t : Direction) where
  point_is_refused : {n : ℕ} → PointCause h p t n → refusal n ≡ point_of h p t
  point_is_refused (base_refused cause) = point_refused h p t (is_refused h p cause)
  point_is_refused (not_direction l none) = point_no_direction h p t (is_judged h p l) (fails none)

  -- what an answer tells
  abbrev PointReason : Verdict → Type 0
  PointReason (point q) = Unit {0}
  PointReason none_by_sign = Unit {0}
  PointReason (none_by_prime l) = Unit {0}
  PointReason (refusal n) = PointCause h p t n

  point_reason : PointReason (point_of h p t)
  point_reason = by_judgement (judged_of h p) refl (reason h p)
    where
      by_judgement : (j : Judgement) → j ≡ judged_of h p → Reason h p j → PointReason (point_of h p t)
      by_judgement (refused n) e cause = subst PointReason (point_refused h p t e) (base_refused cause)
      by_judgement legal e l =
          by_test (is_direction t)
          (λ some. subst PointReason (point_reached h p t e some) tt)
          (λ none. subst PointReason (point_no_direction h p t e none) (not_direction l (refutes none)))

pub point_refuses_exactly : PointRefusesExactly
unfolding PointRefusesExactly
point_refuses_exactly h p t n =
    (λ e. subst (PointReason h p t) e (point_reason h p t), λ c. sym (point_is_refused h p t c))

-- ---- point to direction

module _ (h : Conic) (p q : Point) where
  direction_is_refused : {n : ℕ} → DirectionCause h p q n → no_direction n ≡ direction_of h p q
  direction_is_refused (base_refused cause) = direction_refused h p q (is_refused h p cause)
  direction_is_refused (not_target l none) = direction_no_target h p q (is_judged h p l) (fails none)
  direction_is_refused (target_off l target off) =
      direction_target_off h p q (is_judged h p l) (true_of_T _ target) (is_zero_not off)

  abbrev DirectionReason : Bearing → Type 0
  DirectionReason (direction t) = Unit {0}
  DirectionReason (no_direction n) = DirectionCause h p q n

  direction_reason : DirectionReason (direction_of h p q)
  direction_reason = by_judgement (judged_of h p) refl (reason h p)
    where
      by_judgement : (j : Judgement) → j ≡ judged_of h p → Reason h p j → DirectionReason (direction_of h p q)
      by_judgement (refused n) e cause = subst DirectionReason (direction_refused h p q e) (base_refused cause)
      by_judgement legal e l =
          by_test (is_target q)
          (λ target. by_test (is_zero (G h q))
          (λ on. subst DirectionReason (direction_found h p q e target on) tt)
          (λ off.
          subst DirectionReason (direction_target_off h p q e target off)
          (target_off l (T-of-true target) (not_zero_of_false off))))
          (λ none. subst DirectionReason (direction_no_target h p q e none) (not_target l (refutes none)))

pub direction_refuses_exactly : DirectionRefusesExactly
unfolding DirectionRefusesExactly
direction_refuses_exactly h p q n =
    (λ e. subst (DirectionReason h p q) e (direction_reason h p q), λ c. sym (direction_is_refused h p q c))
