-- `direction::Base::judged` meets its contract: what is judged legal is within the limits. Assumes nothing.
use Rattle.conic.proofs.Legal.{legal_base, at_base}
use Rattle.direction.proofs.Base.judged.Goals as goal

pub invariant_of-result : goal.invariant_of-result
invariant_of-result c = record { within = at_base _ _ (legal_base _ _ c.in_ok-judge.ensures) }
