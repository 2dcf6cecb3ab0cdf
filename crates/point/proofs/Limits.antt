-- What the tests of the limits say, and what the machine's normal form is: within the largest number it is the normal form, which is
-- no larger than the point. Assumes nothing.
use mathlib.Core.Path.{◌≡◌, ap, ◌∙◌}
use mathlib.Core.Bool.{and-eq-true_iff, Bool, true, false, cond, ◌&&◌}
use Prim.Native.Nat.{ℕ, ◌≤◌, zero-le}
use native.Mathlib.Nat.{le_trans}
use lib.IntN.{nat_abs, pos, ℤ}
use mir.Syntax.{w64}
use mir.Val.{SFits, to_z, of_z}
use mir.Facts.{to_z-of_z}
use borrow.Author.Tests.{leb-true, le-leb}
use Rattle.point.specs.Normal.{normal, largest, normal_within, at_infinity}
use Rattle.point.specs.Paper.{point_limit, within, point_in_limit, direction_limit, direction_in_limit}
use Rattle.point.specs.Sizes.{PointWithin, LineWithin}
use Rattle.point.specs.Legal.{is_base, is_target, is_normal}
use Rattle.point.specs.declared.Point.{Point}
use Rattle.point.specs.declared.Direction.{Direction}
use Rattle.point.proofs.Normal.{normal_size_x, normal_size_y, normal_size_z}
use Rattle.point.proofs.Vector.{same_point}
use Rattle.point.proofs.Tests.{is_base_iff}

pub within_bound : (n : ℕ) (m : ℤ) → within n m ≡ true → nat_abs m ≤ n
unfolding within
within_bound n m e = leb-true (nat_abs m) n e

pub bound_within : {n : ℕ} (m : ℤ) → nat_abs m ≤ n → within n m ≡ true
unfolding within
bound_within {n} m h = le-leb (nat_abs m) n h

pub point_within : (n : ℕ) (p : Point) → within n p.x && within n p.y && within n p.z ≡ true → PointWithin n p
point_within n p e =
    let (xy, z) = (and-eq-true_iff _ _).0 e in
    let (x, y) = (and-eq-true_iff _ _).0 xy in
    record { x_within = within_bound n p.x x; y_within = within_bound n p.y y; z_within = within_bound n p.z z }

pub within_point : {n : ℕ} {p : Point} → PointWithin n p → within n p.x && within n p.y && within n p.z ≡ true
within_point {p = p} h =
    (and-eq-true_iff _ _).1
    ((and-eq-true_iff _ _).1 (bound_within p.x h.x_within, bound_within p.y h.y_within), bound_within p.z h.z_within)

pub within_wider : {m n : ℕ} {p : Point} → m ≤ n → PointWithin m p → PointWithin n p
within_wider l h =
    record { x_within = le_trans h.x_within l; y_within = le_trans h.y_within l; z_within = le_trans h.z_within l }

pub point_in_limit_lem : (p : Point) → point_in_limit p ≡ true → PointWithin point_limit p
unfolding point_in_limit
point_in_limit_lem p e = point_within point_limit p e

pub direction_in_limit_lem : (t : Direction) → direction_in_limit t ≡ true → LineWithin (at_infinity t)
unfolding direction_in_limit at_infinity
direction_in_limit_lem t e =
    let (u, v) = (and-eq-true_iff _ _).0 e in
    record { x_within = within_bound direction_limit t.u u; y_within = within_bound direction_limit t.v v; z_within = zero-le }

pub normal_within_is_normal : {p : Point} → PointWithin largest p → normal_within p ≡ normal p
unfolding normal_within
normal_within_is_normal {p} h = ap (λ (t : Bool). cond t (normal p) (record { x = pos 0; y = pos 0; z = pos 0 })) (within_point h)

pub normal_within_is_zero :
    (p : Point) → within largest p.x && within largest p.y && within largest p.z ≡ false →
    normal_within p ≡ record { x = pos 0; y = pos 0; z = pos 0 }
unfolding normal_within
normal_within_is_zero p e = ap (λ (t : Bool). cond t (normal p) (record { x = pos 0; y = pos 0; z = pos 0 })) e

-- the three numbers handed over one by one: what is read back from their bits is the point
pub normal_passed :
    (p : Point) {r : Point} → SFits w64 p.x → SFits w64 p.y → SFits w64 p.z →
    r ≡ normal_within (record { x = to_z w64 (of_z w64 p.x); y = to_z w64 (of_z w64 p.y); z = to_z w64 (of_z w64 p.z) }) → r ≡ normal_within p
normal_passed p f g h e = e ∙ ap normal_within (same_point (to_z-of_z f) (to_z-of_z g) (to_z-of_z h))

pub base_within : (p : Point) → is_base p ≡ true → PointWithin point_limit p
base_within p e = point_in_limit_lem p (is_base_iff.0 e).0

pub target_within : (q : Point) → is_target q ≡ true → PointWithin point_limit q
unfolding is_target
target_within q e = point_in_limit_lem q ((and-eq-true_iff (point_in_limit q) (is_normal q)).0 e).0

pub normal_within_lem : (p : Point) → PointWithin point_limit p → PointWithin point_limit (normal p)
normal_within_lem p small =
    record {
      x_within = le_trans (normal_size_x p) small.x_within;
      y_within = le_trans (normal_size_y p) small.y_within;
      z_within = le_trans (normal_size_z p) small.z_within;
    }
