-- `number::residue::Residue::by_powers` gives the least root: by Fermat a power that does not leave 1 refutes a root; a candidate that
-- squares to the residue is a root, and of it and its opposite the smaller is the least; else every number is tried. Assumes
-- nothing.
use mathlib.Core.Path.{sym, ap, ◌∙◌}
use Rattle.std.specs.Prelude.{Some}
use Rattle.number.proofs.LeastRoot.{refuted, root_of_prime}
use Rattle.number.proofs.Prime.{is_prime_iff}
use Rattle.number.proofs.residue.Residue.by_powers.Goals as goal

pub returns-then-power-ne1 : goal.returns-then-power-ne1
returns-then-power-ne1 c =
    let given = c.args.self in
    sym (refuted (is_prime_iff.0 given.prime_tested) given.at_least_two given.below (λ e. c.if-power-ne1.true (c.power.ensures.value ∙ e)))

pub returns : goal.returns
returns c =
    let given = c.args.self in
    let root = c.candidate-root.result in
    ap Some c.min.ensures
    ∙ sym (root_of_prime root (is_prime_iff.0 given.prime_tested) given.below c.candidate-root.ensures (sym c.product.ensures.value ∙ c.if-product-value.false))
