-- A base is judged legal exactly if its point is right: the judgement and the test ask the same of the conic and
-- the point. By cases on the outcomes. Assumes nothing.
use mathlib.Core.Bool.{Bool, true, false, ◌&&◌, not, cond}
use mathlib.Core.Path.{◌≡◌, refl, ap, ◌∙◌}
use Rattle.std.specs.Prelude.{Result, Ok, Err}
use Rattle.std.specs.Result.{is_ok}
use Rattle.point.specs.Legal.{is_base}
use Rattle.point.specs.Paper.{is_zero}
use Rattle.point.specs.declared.paper.Refusal.{Refusal}
use Rattle.point.specs.declared.Point.{Point}
use Rattle.conic.specs.Base.{from_base, Judgement, legal, refused, judged, judged_of, in_range}
use Rattle.conic.specs.Form.{G, Δ}
use Rattle.conic.specs.declared.conic.Conic.{Conic}
use Rattle.book.specs.Reader.{is_right_point}

abbrev is_legal : Judgement → Bool
is_legal legal = true
is_legal (refused n) = false

legal_test : (h : Conic) (p : Point) → is_legal (judged_of h p) ≡ is_right_point h p
unfolding judged_of from_base is_right_point
legal_test h p = by (in_range h) (is_zero (Δ h)) (is_base p) (is_zero (G h p))
  where
    by :
        (range delta base on : Bool) →
        is_legal (cond range (cond delta (refused 2) (cond base (cond on legal (refused 6)) (refused 5))) (refused 1)) ≡
        range && not delta && base && on
    by false delta base on = refl
    by true true base on = refl
    by true false false on = refl
    by true false true false = refl
    by true false true true = refl

pub judged_right : (h : Conic) (p : Point) (r : Result (Unit {0}) Refusal) → judged r ≡ judged_of h p → is_ok r ≡ is_right_point h p
judged_right h p (Ok u) e = ap is_legal e ∙ legal_test h p
judged_right h p (Err s) e = ap is_legal e ∙ legal_test h p
