-- `legendre::equation::Equation::one_sign` meets its contract: the three are of one sign where the first two and the last two are.
-- Assumes nothing.
use mathlib.Core.Path.{sym, ap, ap₂, ◌∙◌}
use mathlib.Core.Bool.{Bool, ◌&&◌}
use Rattle.legendre.specs.Search.{same_sign}
use Rattle.legendre.proofs.Reach.{kept_p, kept_g, kept_q}
use Rattle.legendre.proofs.SameSign.{one_sign_of_pairs}
use Rattle.legendre.proofs.equation.Equation.one_sign.Goals as goal

pub returns-then-same_sign : goal.returns-then-same_sign
returns-then-same_sign c =
    let e = c.args.self in
    let first = c.same_sign.ensures ∙ ap₂ same_sign (kept_p e.reach) (kept_g e.reach) in
    c.same_sign-then-same_sign.ensures ∙ ap₂ same_sign (kept_g e.reach) (kept_q e.reach)
    ∙ ap (λ (b : Bool). b && same_sign e.g e.q) (sym c.if-same_sign.true ∙ first) ∙ one_sign_of_pairs e.p e.g e.q

pub returns-else-same_sign : goal.returns-else-same_sign
returns-else-same_sign c =
    let e = c.args.self in
    let first = c.same_sign.ensures ∙ ap₂ same_sign (kept_p e.reach) (kept_g e.reach) in
    c.if-same_sign.false ∙ ap (λ (b : Bool). b && same_sign e.g e.q) (sym c.if-same_sign.false ∙ first) ∙ one_sign_of_pairs e.p e.g e.q
