-- What each case of solve's answer stands for in the paper. Assumes nothing.
use Rattle.std.specs.Prelude.{Result, Ok, Err}
use Rattle.legendre.specs.declared.outcome.Reason.{Reason}
use Rattle.point.specs.Paper.{number, Verdict, point, none_by_sign, none_by_prime, refusal}
use Rattle.point.specs.declared.Point.{Point}
use Rattle.point.specs.declared.paper.Refusal.{Refusal}

-- a point, or why there is none
abbrev pub Answer : Type 0
Answer = Result Point Reason

-- an answer, or a refusal
abbrev pub Solved : Type 0
Solved = Result Answer Refusal

abbrev pub reason_given : Reason → Verdict
reason_given Reason.Sign = none_by_sign
reason_given (Reason.Prime l) = none_by_prime l

abbrev pub answered : Answer → Verdict
answered (Ok p) = point p
answered (Err r) = reason_given r

abbrev pub solved : Solved → Verdict
solved (Ok a) = answered a
solved (Err r) = refusal (number r)
