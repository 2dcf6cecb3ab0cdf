-- The tests of a base, a target and a direction say the paper's words, test by test. Assumes nothing.
use mathlib.Core.Path.{◌≡◌, ap}
use mathlib.Core.Bool.{Bool, true, false, not, ◌&&◌, and-eq-true_iff}
use borrow.Author.Tests.{not-true}
use Rattle.number.proofs.Least.{true_of_T, T-of-true, not_true_of_false, false_of_not_true}
use Rattle.point.specs.Paper.{point_limit, direction_limit, point_in_limit, direction_in_limit, within, is_zero}
use Rattle.point.specs.Legal.{is_base, is_target, is_normal, is_direction}
use Rattle.point.specs.Sizes.{PointWithin}
use Rattle.point.specs.Asked.{BaseExactly, TargetExactly, DirectionExactly}
use Rattle.point.specs.declared.Point.{Point}
use Rattle.point.proofs.Limits.{point_in_limit_lem, within_point, within_bound, bound_within}
use Rattle.point.proofs.Tests.{is_zero_iff, is_normal_iff, is_base_iff}

in_limit : {p : Point} → PointWithin point_limit p → point_in_limit p ≡ true
unfolding point_in_limit
in_limit w = within_point w

pub base_exactly : BaseExactly
unfolding BaseExactly
base_exactly p = (
  λ h.
      let (small, normal, above) = is_base_iff.0 (true_of_T (is_base p) h) in
      record { in_limit = point_in_limit_lem p small; normal_form = normal; in_plane = above },
  λ b. T-of-true (is_base_iff.1 (in_limit b.in_limit, b.normal_form, b.in_plane)),
)

pub target_exactly : TargetExactly
unfolding TargetExactly is_target
target_exactly q = (
  λ h.
      let (small, normal) = (and-eq-true_iff (point_in_limit q) (is_normal q)).0 (true_of_T _ h) in
      record { in_limit = point_in_limit_lem q small; normal_form = is_normal_iff.0 normal },
  λ l.
      T-of-true
      ((and-eq-true_iff (point_in_limit q) (is_normal q)).1 (in_limit l.in_limit, is_normal_iff.1 l.normal_form)),
)

pub direction_exactly : DirectionExactly
unfolding DirectionExactly is_direction direction_in_limit
direction_exactly t = (
  λ h.
      let (some, small) = (and-eq-true_iff (not both) (direction_in_limit t)).0 (true_of_T _ h) in
      let (u, v) = (and-eq-true_iff (within direction_limit t.u) (within direction_limit t.v)).0 small in
      record {
        not_both_zero =
            λ (a, b).
            not_true_of_false (not-true both some) ((and-eq-true_iff _ _).1 (is_zero_iff.1 a, is_zero_iff.1 b));
        u_within = within_bound direction_limit t.u u;
        v_within = within_bound direction_limit t.v v;
      },
  λ d.
      let none : both ≡ false =
      false_of_not_true λ e.
      let (a, b) = (and-eq-true_iff _ _).0 e in
      d.not_both_zero (is_zero_iff.0 a, is_zero_iff.0 b) in
      T-of-true
      ((and-eq-true_iff (not both) (direction_in_limit t)).1
      (ap not none, (and-eq-true_iff _ _).1 (bound_within t.u d.u_within, bound_within t.v d.v_within))),
)
  where
    both : Bool
    both = is_zero t.u && is_zero t.v
