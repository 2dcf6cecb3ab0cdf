-- Solving a conic, as the paper has it: refusals 1 and 2; where −D is a square, the point from infinity by the trial lines;
-- otherwise the levelled equation's sign, least failing prime, or chosen solution carried back. Assumes nothing.
use Rattle.std.specs.Prelude.{Bool, ◌&&◌, cond, Result, Ok, Err, ◌≡◌, ℤ, pos, neg_ℤ, nat_abs, ◌-ℤ◌, ◌*ℤ◌}
use Rattle.std.specs.Int.Signed.{non_neg}
use Rattle.number.specs.Square.{root_of, is_square}
use Rattle.legendre.specs.Outcome.{outcome_of}
use Rattle.legendre.specs.declared.outcome.Reason.{Reason}
use Rattle.legendre.specs.declared.outcome.Triple.{Triple}
use Rattle.point.specs.Normal.{normal}
use Rattle.point.specs.Paper.{Verdict, point, refusal, is_zero}
use Rattle.point.specs.declared.Point.{Point}
use Rattle.conic.specs.Form.{L, D, Δ, drawn}
use Rattle.conic.specs.Base.{in_range}
use Rattle.conic.specs.declared.conic.Conic.{Conic}
use Rattle.solve.specs.Level.{level_of, carried_back}
use Rattle.solve.specs.Answer.{Solved, solved, reason_given}

-- n = r² for some r
unfoldable pub is_square_number : ℤ → Bool
is_square_number n = non_neg n && is_square (nat_abs n)

-- Three trial lines

abbrev pub first_line : Point
first_line = record { x = pos 0; y = pos 0; z = pos 1 }

abbrev pub second_line : Point
second_line = record { x = pos 1; y = pos 0; z = pos 1 }

abbrev pub third_line : Point
third_line = record { x = pos 0; y = pos 1; z = pos 1 }

-- the first T with L(S, T) not 0
unfoldable pub trial_line : Conic → Point → Point
trial_line h s = cond (is_zero (L h s first_line)) (cond (is_zero (L h s second_line)) third_line second_line) first_line

-- S = (1, 0, 0) if a = 0, else (r − b, 2a, 0), with −D = r²
unfoldable pub start_at_infinity : Conic → Point
start_at_infinity h =
    cond (is_zero h.a)
    (record { x = pos 1; y = pos 0; z = pos 0 })
    (record { x = pos (root_of (nat_abs (D h))) -ℤ h.b; y = pos 2 *ℤ h.a; z = pos 0 })

unfoldable pub from_infinity : Conic → Point
from_infinity h = normal (drawn h (start_at_infinity h) (trial_line h (start_at_infinity h)))

unfoldable pub outcome_carried : Conic → Result Triple Reason → Verdict
outcome_carried h (Ok m) = point (carried_back h (level_of h) m)
outcome_carried h (Err r) = reason_given r

unfoldable pub solve_levelled : Conic → Verdict
solve_levelled h = outcome_carried h (outcome_of (level_of h).p (level_of h).g (level_of h).q)

unfoldable pub solve_non_degenerate : Conic → Verdict
solve_non_degenerate h = cond (is_square_number (neg_ℤ (D h))) (point (from_infinity h)) (solve_levelled h)

unfoldable pub solve_of : Conic → Verdict
solve_of h = cond (in_range h) (cond (is_zero (Δ h)) (refusal 2) (solve_non_degenerate h)) (refusal 1)

-- the promise of solve
pub record SolvePromise (h : Conic) (r : Solved) : Type 0 where
  pub as_defined : solved r ≡ solve_of h
