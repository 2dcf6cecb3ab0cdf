-- What the chosen solution of a conic's own levelled equation, and the trial line from its point at infinity, meet: the sizes that the
-- machine's functions ask for. Assumes nothing.
use mathlib.Core.Path.{sym, subst}
use mathlib.Core.Bool.{Bool, true, false, cond}
use native.Mathlib.Nat.{le_trans}
use lib.Dec.{lit≤}
use Rattle.whole.proofs.Order.{pos-<}
use Rattle.legendre.specs.Equation.{BoxSolution}
use Rattle.legendre.specs.declared.outcome.Triple.{Triple}
use Rattle.point.specs.Paper.{point_limit, is_zero}
use Rattle.point.specs.Sizes.{PointWithin, LineWithin}
use Rattle.point.specs.declared.Point.{Point}
use Rattle.conic.specs.Form.{L}
use Rattle.conic.specs.Sizes.{InLimit, ConicAlong}
use Rattle.conic.specs.declared.conic.Conic.{Conic}
use Rattle.solve.specs.Level.{level_of}
use Rattle.solve.specs.Solve.{first_line, second_line, third_line, start_at_infinity, trial_line}
use Rattle.solve.specs.Sizes.{Carries}
use Rattle.solve.proofs.Levelling.{Levellable, level_unique, levelled_by_own, g_positive}
use Rattle.solve.proofs.Sizes.{primed_within}
use Rattle.solve.proofs.Infinity.{start_within}

pub carries :
    {h : Conic} (m : Triple) → InLimit h → Levellable h → BoxSolution (level_of h).p (level_of h).g (level_of h).q m.x m.y m.w →
    Carries (level_of h) m
carries {h} m i ok box =
    let own = levelled_by_own ok in
    subst (λ v. Carries v m) (sym (level_unique own))
    (record {
      s_positive = pos-< own.s_positive;
      t_positive = pos-< own.t_positive;
      g_positive = g_positive own;
      primed_within = primed_within own i box;
    })

line_within : (a b : Bool) → LineWithin (cond a (cond b third_line second_line) first_line)
line_within true true = record { x_within = lit≤ tt; y_within = lit≤ tt; z_within = lit≤ tt }
line_within true false = record { x_within = lit≤ tt; y_within = lit≤ tt; z_within = lit≤ tt }
line_within false b = record { x_within = lit≤ tt; y_within = lit≤ tt; z_within = lit≤ tt }

pub trial_line_within : (h : Conic) (s : Point) → LineWithin (trial_line h s)
unfolding trial_line
trial_line_within h s = line_within (is_zero (L h s first_line)) (is_zero (L h s second_line))

pub start_in_limit : (h : Conic) → InLimit h → PointWithin point_limit (start_at_infinity h)
start_in_limit h i =
    let small = start_within h i in
    record {
      x_within = le_trans small.x_within (lit≤ tt);
      y_within = le_trans small.y_within (lit≤ tt);
      z_within = le_trans small.z_within (lit≤ tt);
    }

pub from_start : (h : Conic) → InLimit h → ConicAlong h (start_at_infinity h) (trial_line h (start_at_infinity h))
from_start h i = record { conic = i; from = start_in_limit h i; along = trial_line_within h (start_at_infinity h) }
