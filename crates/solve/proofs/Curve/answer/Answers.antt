-- `solve::Curve::answer` meets its contract: the levelled equation is asked for only where −D is no square; that either
-- way is the definition's is found by the check, from the two lemmas that the function names. Assumes nothing.
use Rattle.std.proofs.Common.{sym}
use Rattle.number.proofs.Least.{not_true_of_false}
use Rattle.solve.proofs.Infinity.{is_square_iff}
use Rattle.solve.proofs.Curve.answer.Goals as goal

pub answer_by_level-requires : goal.answer_by_level-requires
answer_by_level-requires c =
    λ square. not_true_of_false (sym c.if-has_square_discriminant.ensures) ((is_square_iff _).1 square)
