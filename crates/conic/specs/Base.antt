-- What the entries ask of a conic with its base: in range, not degenerate, and the base legal and on it, or the first of the refusals
-- 1, 2, 5, 6. Assumes nothing.
use Rattle.std.specs.Prelude.{◌≡◌, Bool, ◌&&◌, cond, ℕ, T, pos, Result, Ok, Err}
use Rattle.point.specs.Paper.{is_zero, number, coefficient_limit, within}
use Rattle.point.specs.Legal.{is_base}
use Rattle.point.specs.declared.Point.{Point}
use Rattle.point.specs.declared.paper.Refusal.{Refusal}
use Rattle.conic.specs.Form.{G, Δ}
use Rattle.conic.specs.declared.conic.Conic.{Conic}

-- each coefficient is within the limit
unfoldable pub in_range : Conic → Bool
in_range h =
    within coefficient_limit h.a && within coefficient_limit h.b && within coefficient_limit h.c &&
    within coefficient_limit h.d && within coefficient_limit h.e && within coefficient_limit h.f

-- what follows, or by `refuse` the first of 1, 2, 5, 6
unfoldable pub from_base : {A : Type 0} → (ℕ → A) → Conic → Point → A → A
from_base refuse h p next =
    cond (in_range h)
    (cond (is_zero (Δ h)) (refuse 2) (cond (is_base p) (cond (is_zero (G h p)) next (refuse 6)) (refuse 5)))
    (refuse 1)

-- legal, or a refusal by its number
pub data Judgement : Type 0 where
  legal : Judgement
  refused : ℕ → Judgement

abbrev pub judged : Result (Unit {0}) Refusal → Judgement
judged (Ok u) = legal
judged (Err r) = refused (number r)

-- a conic alone: the first two
unfoldable pub conic_judged : Conic → Judgement
conic_judged h = cond (in_range h) (cond (is_zero (Δ h)) (refused 2) legal) (refused 1)

unfoldable pub judged_of : Conic → Point → Judgement
judged_of h p = from_base refused h p legal

-- what the entries ask of the conic and the base
pub record LegalBase (h : Conic) (p : Point) : Type 0 where
  pub in_range : T (in_range h)
  pub not_degenerate : ¬ (Δ h ≡ pos 0)
  pub legal : T (is_base p)
  pub on : G h p ≡ pos 0
