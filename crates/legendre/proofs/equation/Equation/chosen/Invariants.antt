-- The loop of `legendre::equation::Equation::chosen`. The invariant: no solution of the box has a smaller W. Assumes nothing.
use Rattle.legendre.proofs.Walks.{NoneAbove}
use Rattle.legendre.proofs.equation.Equation.chosen.Given as goal

abbrev pub invariant-loop-w : goal.invariant-loop-w
invariant-loop-w l = NoneAbove l.self.p l.self.g l.self.q l.w
