-- `conic::conic::Conic::in_range` meets its contract. Assumes nothing.
use mathlib.Core.Path.{◌≡◌, refl, ap, ◌∙◌}
use mathlib.Core.Bool.{Bool, true, false, ◌&&◌}
use Rattle.point.specs.Paper.{within, coefficient_limit}
use Rattle.point.proofs.Passed.{tested}
use Rattle.conic.specs.Base.{in_range}
use Rattle.conic.specs.declared.conic.Conic.{Conic}
use Rattle.conic.proofs.conic.Conic.in_range.Goals as goal

regroup : (p d e f : Bool) → p && (d && e && f) ≡ p && d && e && f
regroup true d e f = refl
regroup false d e f = refl

-- three coefficients and three
halves :
    (h : Conic) (p q : Bool) →
    p ≡ within coefficient_limit h.a && within coefficient_limit h.b && within coefficient_limit h.c →
    q ≡ within coefficient_limit h.d && within coefficient_limit h.e && within coefficient_limit h.f →
    p && q ≡ in_range h
unfolding in_range
halves h p q first last =
    let test = within coefficient_limit in
    ap (λ (t : Bool). p && t) last ∙ regroup p (test h.d) (test h.e) (test h.f)
    ∙ ap (λ (t : Bool). t && test h.d && test h.e && test h.f) first

pub returns : goal.returns
returns c = search (halves, tested) depth 60 fits 9999
