-- `legendre::decide::outcome` meets its contract: its three answers are those of the definition, and where neither the
-- sign nor a prime forbids it the box holds a solution for `chosen` to find. Assumes nothing.
use mathlib.Core.Path.{◌≡◌, sym, ap, ◌∙◌}
use mathlib.Core.Bool.{true, false}
use Rattle.std.specs.Prelude.{None, Ok}
use Rattle.legendre.specs.Outcome.{is_one_sign, chosen}
use Rattle.legendre.proofs.Decision.{answer_of, found, answer_sign, answer_mixed, solvable}
use Rattle.legendre.proofs.Reach.{kept_p, kept_g, kept_q, in_the_numbers}
use Rattle.legendre.proofs.decide.outcome.Goals as goal

pub returns-then-one_sign : goal.returns-then-one_sign
returns-then-one_sign c =
    let signs : is_one_sign c.args.p c.args.g c.args.q ≡ true = sym (c.if-one_sign.ensures ∙ in_the_numbers c.requires is_one_sign) in
    answer_sign c.args.p c.args.g c.args.q signs

pub returns-in-Some : goal.returns-in-Some
returns-in-Some c =
    let mixed : is_one_sign c.args.p c.args.g c.args.q ≡ false = sym (c.if-one_sign.ensures ∙ in_the_numbers c.requires is_one_sign) in
    ap (λ o. answer_of o (chosen c.args.p c.args.g c.args.q)) (c.in-Some.ensures ∙ in_the_numbers c.requires found)
    ∙ answer_mixed c.args.p c.args.g c.args.q mixed

pub chosen-requires : goal.chosen-requires
chosen-requires c =
    let r = c.requires in
    let mixed : is_one_sign c.args.p c.args.g c.args.q ≡ false = sym (c.if-one_sign.ensures ∙ in_the_numbers r is_one_sign) in
    let nothing : found c.args.p c.args.g c.args.q ≡ None = sym (c.in_default.ensures ∙ in_the_numbers r found) in
    rw (kept_p r, kept_g r, kept_q r) (solvable c.args.p c.args.g c.args.q r.levelled mixed nothing)

pub returns : goal.returns
returns c =
    let mixed : is_one_sign c.args.p c.args.g c.args.q ≡ false = sym (c.if-one_sign.ensures ∙ in_the_numbers c.requires is_one_sign) in
    ap Ok (c.chosen.ensures ∙ in_the_numbers c.requires chosen)
    ∙ ap (λ o. answer_of o (chosen c.args.p c.args.g c.args.q)) (c.in_default.ensures ∙ in_the_numbers c.requires found)
    ∙ answer_mixed c.args.p c.args.g c.args.q mixed
