-- The starred bench examples, by computation of solve at each. Assumes nothing.
use mathlib.Core.Path.{refl}
use Rattle.number.specs.Divides.{divides}
use Rattle.number.specs.Gcd.{gcd_of, euclid}
use Rattle.number.specs.Least.{least, first_from, greatest}
use Rattle.number.specs.Prime.{is_prime, least_divisor}
use Rattle.number.specs.Residue.{least_root_of, is_square_modulo}
use Rattle.number.specs.Square.{root_of, is_square}
use Rattle.number.specs.Squarefree.{square_part, free_part}
use Rattle.legendre.specs.Outcome.{is_one_sign, holds_for, fails_at, prime_limit, least_failing, side, solves, least_y, least_x, least_w, chosen, outcome_of}
use Rattle.point.specs.Normal.{normal, over, signed, leading, or_else, common_factor}
use Rattle.point.specs.Paper.{within, is_zero}
use Rattle.conic.specs.Form.{G, L, D, Δ, k, Gx, Gy, Gz, drawn}
use Rattle.conic.specs.Base.{in_range}
use Rattle.solve.specs.Bench.{StarredExamples}
use Rattle.solve.specs.Level.{level_of, level_from, primed, from_primed, carried_back}
use Rattle.solve.specs.Solve.{solve_of, is_square_number, trial_line, start_at_infinity, from_infinity, outcome_carried, solve_levelled, solve_non_degenerate}

pub starred_examples : StarredExamples
unfolding StarredExamples gcd_of euclid is_prime least_divisor root_of is_square square_part free_part least_root_of is_square_modulo least first_from greatest divides is_one_sign holds_for fails_at prime_limit least_failing side solves least_y least_x least_w chosen outcome_of G L D Δ k Gx Gy Gz level_of level_from primed from_primed carried_back normal over signed leading or_else common_factor in_range within solve_of is_zero is_square_number drawn trial_line start_at_infinity from_infinity outcome_carried solve_levelled solve_non_degenerate
starred_examples = refl
