-- What is meant by normal form, in the paper's words: a point is a multiple of its normal form and of no other, and a
-- direction's is that of its point at infinity. Assumes nothing.
use Rattle.std.specs.Prelude.{◌≡◌, ◌⊎◌, ◌≢◌, ◌↔◌, ℤ, pos, ◌*ℤ◌, ◌<ℤ◌}
use Rattle.number.specs.Gcd.{Coprime}
use Rattle.point.specs.Normal.{normal, NormalForm, at_infinity, normal_direction, NormalDirection}
use Rattle.point.specs.declared.Point.{Point}
use Rattle.point.specs.declared.Direction.{Direction}

-- n is in normal form, and p is a multiple of it
pub record NormalFormOf (p n : Point) : Type 0 where
  pub normal_form : NormalForm n
  pub factor : ℤ
  pub factor_not_zero : factor ≢ pos 0
  pub multiple : p ≡ record { x = factor *ℤ n.x; y = factor *ℤ n.y; z = factor *ℤ n.z }

-- (0, 0, 0)
abbrev pub AllZero : Point → Type 0
AllZero p = (p.x ≡ pos 0) × (p.y ≡ pos 0) × (p.z ≡ pos 0)

-- a triple not all 0 has one normal form, which `normal` gives; (0, 0, 0) stays; a direction's is that of its point
unfoldable pub NormalIsTheOne : Type 0
NormalIsTheOne =
    ((p n : Point) → ¬ AllZero p → NormalFormOf p n ↔ n ≡ normal p) ×
    ((p : Point) → AllZero p → normal p ≡ p) ×
    ((t : Direction) → at_infinity (normal_direction t) ≡ normal (at_infinity t))

-- a direction in normal form has no common factor, and u > 0, or u = 0 and v = 1
unfoldable pub NormalDirectionExactly : Type 0
NormalDirectionExactly =
    (t : Direction) →
    NormalDirection t ↔ Coprime t.u t.v × ((pos 0 <ℤ t.u) ⊎ ((t.u ≡ pos 0) × (t.v ≡ pos 1)))
