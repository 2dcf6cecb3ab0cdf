-- The loop of `legendre::equation::Equation::row`. The invariant: no solution with this W has a smaller X. Assumes nothing.
use Rattle.legendre.proofs.Walks.{NoneBefore}
use Rattle.legendre.proofs.equation.Equation.row.Given as goal

abbrev pub invariant-loop-x : goal.invariant-loop-x
invariant-loop-x l = NoneBefore l.self.p l.self.g l.self.q l.w l.x
