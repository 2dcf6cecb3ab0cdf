-- `solve::Curve::judged` meets its contract: what is judged legal is in range and not degenerate. Assumes nothing.
use Rattle.conic.proofs.Sizes.{in_limit}
use Rattle.solve.proofs.Entries.{not_degenerate}
use Rattle.solve.proofs.Curve.judged.Goals as goal

pub invariant_of-result : goal.invariant_of-result
invariant_of-result c =
    let n = not_degenerate _ c.in_ok-judge_conic.ensures in
    record { in_limit = in_limit _ n.in_range; non_degenerate = n }
