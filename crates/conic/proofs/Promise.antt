-- A judgement can be told from what it stands for in the paper, so two that stand for the same are equal. Assumes nothing.
use mathlib.Core.Path.{◌≡◌, refl, ap}
use Rattle.std.specs.Prelude.{Result, Ok, Err}
use Rattle.point.proofs.Promise.{told_apart, numbered, numbered_number}
use Rattle.conic.specs.Base.{Judgement, legal, refused, judged}
use Rattle.point.specs.declared.paper.Refusal.{Refusal}

abbrev to_judged : Judgement → Result (Unit {0}) Refusal
to_judged legal = Ok tt
to_judged (refused n) = Err (numbered n)

judged_back : (r : Result (Unit {0}) Refusal) → to_judged (judged r) ≡ r
judged_back (Ok tt) = refl
judged_back (Err r) = ap Err (numbered_number r)

pub judge_determined : (r r' : Result (Unit {0}) Refusal) → judged r ≡ judged r' → r ≡ r'
judge_determined = told_apart judged to_judged judged_back
