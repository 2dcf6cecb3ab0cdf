-- `row_reader::number` meets its contract: after a "-" and without one, the digits' number goes over to the sign.
-- Assumes nothing.
use Rattle.row_reader.proofs.Digits.{after_sign, no_sign}
use Rattle.row_reader.proofs.number.Goals as goal
use Rattle.std.proofs.Common.{rules, ◌≡◌, ◌∙◌, ap}
use lib.IntN.{pos, neg_ℤ}
use Rattle.std.specs.Option.{option_map}

pub returns-in-Some : goal.returns-in-Some
returns-in-Some c =
    let m : c.map.result ≡ option_map (λ n. neg_ℤ (pos n)) c.value.result = search rules in
    m ∙ ap (option_map (λ n. neg_ℤ (pos n))) c.value.ensures
    ∙ after_sign _ _ c.in-Some.ensures.cases

pub returns-in-None : goal.returns-in-None
returns-in-None c =
    let m : c.map-in-None.result ≡ option_map pos c.value-in-None.result = search rules in
    m ∙ ap (option_map pos) c.value-in-None.ensures
    ∙ no_sign _ c.in-None.ensures.cases
