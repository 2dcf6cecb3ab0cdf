-- The promise of solve determines its answer, which can be told from what it stands for in the paper. Assumes nothing.
use mathlib.Core.Path.{◌≡◌, refl, sym, ap, ◌∙◌}
use Rattle.std.specs.Prelude.{Ok, Err}
use Rattle.legendre.specs.declared.outcome.Reason.{Reason}
use Rattle.point.specs.Paper.{Verdict, point, none_by_sign, none_by_prime, refusal}
use Rattle.point.proofs.Promise.{told_apart, numbered, numbered_number}
use Rattle.conic.specs.declared.conic.Conic.{Conic}
use Rattle.solve.specs.Answer.{Solved, solved}
use Rattle.solve.specs.Solve.{SolvePromise}

-- ---- answers

abbrev to_solved : Verdict → Solved
to_solved (point p) = Ok (Ok p)
to_solved none_by_sign = Ok (Err Reason.Sign)
to_solved (none_by_prime l) = Ok (Err (Reason.Prime l))
to_solved (refusal n) = Err (numbered n)

solved_back : (r : Solved) → to_solved (solved r) ≡ r
solved_back (Ok (Ok p)) = refl
solved_back (Ok (Err Reason.Sign)) = refl
solved_back (Ok (Err (Reason.Prime l))) = refl
solved_back (Err r) = ap Err (numbered_number r)

-- ---- two answers that a promise allows are equal

pub solve_determined : {h : Conic} {r r' : Solved} → SolvePromise h r → SolvePromise h r' → r ≡ r'
solve_determined {r = r} {r' = r'} a b = told_apart solved to_solved solved_back r r' (a.as_defined ∙ sym b.as_defined)
