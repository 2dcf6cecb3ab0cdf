-- The entries' tests leave room for the arithmetic behind them: a direction in limit is small enough for the step, and the direction
-- to a target fits 64 bits before the division. Assumes nothing.
use lib.Dec.{T}
use mathlib.Core.Bool.{not, ◌&&◌, cond, and-eq-true_iff}
use Prim.Native.Nat.{zero-le}
use Rattle.number.proofs.Least.{true_of_T}
use Rattle.whole.proofs.Signed.{sizes, bounds}
use Rattle.point.specs.Legal.{is_direction}
use Rattle.point.specs.Normal.{largest, at_infinity}
use Rattle.point.specs.Paper.{point_limit, direction_in_limit, is_zero}
use Rattle.point.specs.Sizes.{PointWithin}
use Rattle.point.specs.declared.Point.{Point}
use Rattle.point.specs.declared.Direction.{Direction}
use Rattle.point.proofs.Cases.{cond_cases}
use Rattle.point.proofs.Limits.{direction_in_limit_lem}
use Rattle.conic.specs.Sizes.{ConicAt, ConicAlong}
use Rattle.conic.specs.declared.conic.Conic.{Conic}
use Rattle.conic.proofs.Bounds.{formSizes}
use Rattle.direction.specs.Direction.{is_same, tangent, chord}

-- ---- room for the polynomials

pub along_direction : (h : Conic) (p : Point) (t : Direction) → ConicAt h p → T (is_direction t) → ConicAlong h p (at_infinity t)
unfolding is_direction
along_direction h p t within e =
    record {
      conic = within.conic;
      from = within.point;
      along = direction_in_limit_lem t ((and-eq-true_iff (not (is_zero t.u && is_zero t.v)) (direction_in_limit t)).0 (true_of_T _ e)).1;
    }

-- ---- the direction to a target, before the division

tangent_fits : (h : Conic) (p : Point) → ConicAt h p → PointWithin largest (at_infinity (tangent h p))
unfolding tangent at_infinity
tangent_fits h p i =
    record {
      x_within = bounds (search (formSizes, sizes) depth 60 fits 9999) tt;
      y_within = bounds (search (formSizes, sizes) depth 60 fits 9999) tt;
      z_within = zero-le;
    }

chord_fits : (p q : Point) → PointWithin point_limit p → PointWithin point_limit q → PointWithin largest (at_infinity (chord p q))
unfolding chord at_infinity
chord_fits p q i j =
    record {
      x_within = bounds (search sizes depth 60 fits 9999) tt;
      y_within = bounds (search sizes depth 60 fits 9999) tt;
      z_within = zero-le;
    }

pub toward_fits : (h : Conic) (p q : Point) → ConicAt h p → PointWithin point_limit q →
    PointWithin largest (at_infinity (cond (is_same q p) (tangent h p) (chord p q)))
toward_fits h p q i j =
    cond_cases (λ (t : Direction). PointWithin largest (at_infinity t)) (is_same q p)
    (λ same. tangent_fits h p i)
    (λ other. chord_fits p q i.point j)
