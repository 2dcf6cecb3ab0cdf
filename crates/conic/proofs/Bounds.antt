-- How large the conic's numbers get within the paper's limits, as leaves of the arithmetic by size: `search (formSizes, sizes)` knows
-- D, Δ and k, the three partial derivatives at a point, G of a line and L. Assumes nothing.
use Prim.Native.Nat.{ℕ, ◌+◌, ◌*◌, ◌≤◌}
use lib.IntN.{nat_abs}
use Rattle.whole.proofs.Signed.{sizes, Sized, at_most, bounds}
use Rattle.point.specs.Paper.{coefficient_limit, point_limit, direction_limit}
use Rattle.point.specs.Normal.{largest}
use Rattle.point.specs.Sizes.{PointWithin}
use Rattle.point.specs.declared.Point.{Point}
use Rattle.conic.specs.Form.{G, Gx, Gy, Gz, L, D, Δ, k, drawn}
use Rattle.conic.specs.Sizes.{InLimit, ConicAt, ConicAlong}
use Rattle.conic.specs.declared.conic.Conic.{Conic}
use Rattle.conic.proofs.Sizes.{limit_D, limit_Δ, limit_k, D-size, Δ-size, k_size}

abbrev pub D-sized : (h : Conic) → InLimit h → Sized (D h)
D-sized h i = at_most limit_D (D-size h i)

abbrev pub Δ-sized : (h : Conic) → InLimit h → Sized (Δ h)
Δ-sized h i = at_most limit_Δ (Δ-size h i)

abbrev pub k_sized : (h : Conic) → InLimit h → Sized (k h)
k_sized h i = at_most limit_k (k_size h i)

abbrev pub limit_derivative : ℕ
limit_derivative = 4 * (coefficient_limit * point_limit)

module _ (h : Conic) (p : Point) (i : ConicAt h p) where
  pub Gx-size : nat_abs (Gx h p) ≤ limit_derivative
  unfolding Gx
  Gx-size = bounds (search sizes depth 60 fits 9999) tt

  pub Gy-size : nat_abs (Gy h p) ≤ limit_derivative
  unfolding Gy
  Gy-size = bounds (search sizes depth 60 fits 9999) tt

  pub Gz-size : nat_abs (Gz h p) ≤ limit_derivative
  unfolding Gz
  Gz-size = bounds (search sizes depth 60 fits 9999) tt

abbrev pub Gx-sized : (h : Conic) (p : Point) → ConicAt h p → Sized (Gx h p)
Gx-sized h p i = at_most limit_derivative (Gx-size h p i)

abbrev pub Gy-sized : (h : Conic) (p : Point) → ConicAt h p → Sized (Gy h p)
Gy-sized h p i = at_most limit_derivative (Gy-size h p i)

abbrev pub Gz-sized : (h : Conic) (p : Point) → ConicAt h p → Sized (Gz h p)
Gz-sized h p i = at_most limit_derivative (Gz-size h p i)

-- along a line: x² + xy + y², then xz + yz, then z²
abbrev pub limit_G : ℕ
limit_G = coefficient_limit * (3 * (direction_limit * direction_limit) + 2 * direction_limit + 1)

abbrev pub limit_L : ℕ
limit_L = (2 * direction_limit + 1) * limit_derivative

pub at_start : {h : Conic} {s t : Point} → ConicAlong h s t → ConicAt h s
at_start i = record { conic = i.conic; point = i.from }

module _ (h : Conic) (s t : Point) (i : ConicAlong h s t) where
  pub G-size : nat_abs (G h t) ≤ limit_G
  unfolding G
  G-size = bounds (search sizes depth 60 fits 9999) tt

  pub L-size : nat_abs (L h s t) ≤ limit_L
  unfolding L
  L-size =
      let by_x : nat_abs (Gx h s) ≤ limit_derivative = Gx-size h s (at_start i) in
      let by_y : nat_abs (Gy h s) ≤ limit_derivative = Gy-size h s (at_start i) in
      let by_z : nat_abs (Gz h s) ≤ limit_derivative = Gz-size h s (at_start i) in
      bounds (search sizes depth 60 fits 9999) tt

abbrev pub G-sized : (h : Conic) (s t : Point) → ConicAlong h s t → Sized (G h t)
G-sized h s t i = at_most limit_G (G-size h s t i)

abbrev pub L-sized : (h : Conic) (s t : Point) → ConicAlong h s t → Sized (L h s t)
L-sized h s t i = at_most limit_L (L-size h s t i)

pub ruleset formSizes = (D-sized, Δ-sized, k_sized, Gx-sized, Gy-sized, Gz-sized, G-sized, L-sized)

-- so the machine's normal form of what is drawn is its normal form
pub drawn_fits : (h : Conic) (s t : Point) → ConicAlong h s t → PointWithin largest (drawn h s t)
unfolding drawn
drawn_fits h s t i =
    let of_G : nat_abs (G h t) ≤ limit_G = G-size h s t i in
    let of_L : nat_abs (L h s t) ≤ limit_L = L-size h s t i in
    record {
      x_within = bounds (search sizes depth 60 fits 9999) tt;
      y_within = bounds (search sizes depth 60 fits 9999) tt;
      z_within = bounds (search sizes depth 60 fits 9999) tt;
    }
