-- The tests of the definitions say what they are named for: a number is 0, a point is in normal form, or is a base. Assumes nothing.
use mathlib.Core.Path.{◌≡◌, ap}
use mathlib.Core.Logic.{◌≢◌, ◌↔◌}
use mathlib.Core.Bool.{true, false, ◌&&◌, and-eq-true_iff}
use lib.IntN.{ℤ, pos, nat_abs}
use lib.Signed.{◌<ℤ◌, lt_z, lt_z_yes}
use borrow.Author.Tests.{eqb-true, eq-eqb}
use Rattle.whole.proofs.Size.{nat_abs_zero}
use Rattle.number.proofs.Least.{true_of_T, T-of-true, false_of_not_true, not_true_of_false}
use Rattle.point.specs.Normal.{common_factor, NormalForm}
use Rattle.point.specs.Paper.{is_zero, point_in_limit}
use Rattle.point.specs.Legal.{is_normal, is_base}
use Rattle.point.specs.declared.Point.{Point}

pub is_zero_iff : {n : ℤ} → (is_zero n ≡ true) ↔ (n ≡ pos 0)
unfolding is_zero
is_zero_iff {n} = (λ e. nat_abs_zero n (eqb-true (nat_abs n) 0 e), λ e. eq-eqb (nat_abs n) 0 (ap nat_abs e))

pub is_zero_not : {n : ℤ} → n ≢ pos 0 → is_zero n ≡ false
is_zero_not f = false_of_not_true λ e. f (is_zero_iff.0 e)

pub is_normal_iff : {p : Point} → (is_normal p ≡ true) ↔ NormalForm p
unfolding is_normal
is_normal_iff {p} = (
  λ e.
      let (a, b) = (and-eq-true_iff _ _).0 e in
      record { no_common_factor = eqb-true (common_factor p) 1 a; positive = lt_z_yes (T-of-true b) },
  λ n. (and-eq-true_iff _ _).1 (eq-eqb (common_factor p) 1 n.no_common_factor, true_of_T _ n.positive.lt),
)

pub is_base_iff : {p : Point} → (is_base p ≡ true) ↔ ((point_in_limit p ≡ true) × NormalForm p × (pos 0 <ℤ p.z))
unfolding is_base
is_base_iff {p} = (
  λ e.
      let (ab, c) = (and-eq-true_iff (point_in_limit p && is_normal p) (lt_z (pos 0) p.z)).0 e in
      let (a, b) = (and-eq-true_iff (point_in_limit p) (is_normal p)).0 ab in
      (a, is_normal_iff.0 b, lt_z_yes (T-of-true c)),
  λ (a, b, c).
      (and-eq-true_iff (point_in_limit p && is_normal p) (lt_z (pos 0) p.z)).1
      ((and-eq-true_iff (point_in_limit p) (is_normal p)).1 (a, is_normal_iff.1 b), true_of_T (lt_z (pos 0) p.z) c.lt),
)

pub not_zero_of_false : {n : ℤ} → is_zero n ≡ false → n ≢ pos 0
not_zero_of_false f e = not_true_of_false f (is_zero_iff.1 e)
