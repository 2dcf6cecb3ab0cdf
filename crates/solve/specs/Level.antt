-- Levelling: D = d₁s² and aΔ = e₁t² with d₁, e₁ squarefree (signs kept), g = gcd(d₁, e₁), p = d₁/g, q = e₁/g; and the way back from
-- a solution of the levelled equation to a point of the conic. Assumes nothing.
use Rattle.std.specs.Prelude.{◌≡◌, ℕ, ℤ, pos, nat_abs, ◌+ℤ◌, ◌-ℤ◌, ◌*ℤ◌}
use Rattle.std.specs.Int.Signed.{quot_z}
use Rattle.number.specs.Gcd.{gcd_of}
use Rattle.number.specs.Squarefree.{free_part, square_part}
use Rattle.legendre.specs.declared.outcome.Triple.{Triple}
use Rattle.point.specs.Normal.{normal}
use Rattle.point.specs.declared.Point.{Point}
use Rattle.conic.specs.Form.{G, Gx, D, Δ, k}
use Rattle.conic.specs.declared.conic.Conic.{Conic}
use Rattle.solve.specs.declared.level.Level.{Level}

-- from d₁, s, e₁ and t
unfoldable pub level_from : ℤ → ℕ → ℤ → ℕ → Level
level_from d₁ s e₁ t =
    let g : ℤ = pos (gcd_of (nat_abs d₁) (nat_abs e₁)) in
    record { p = quot_z d₁ g; g = g; q = quot_z e₁ g; s = pos s; t = pos t }

unfoldable pub level_of : Conic → Level
level_of h =
    level_from
    (free_part (D h))
    (square_part (D h))
    (free_part (h.a *ℤ Δ h))
    (square_part (h.a *ℤ Δ h))

-- X' = tX, Y' = stgY, W' = sW
unfoldable pub primed : Level → Triple → Point
primed v m =
    record {
      x = v.t *ℤ pos m.x;
      y = v.s *ℤ v.t *ℤ v.g *ℤ pos m.y;
      z = v.s *ℤ pos m.w;
    }

-- x = 2DX' − 2bY' + bkW' − dDW', y = 4aY' − 2akW', z = 2aDW'
unfoldable pub from_primed : Conic → Point → Point
from_primed h m =
    record {
      x = pos 2 *ℤ D h *ℤ m.x -ℤ pos 2 *ℤ h.b *ℤ m.y +ℤ h.b *ℤ k h *ℤ m.z -ℤ h.d *ℤ D h *ℤ m.z;
      y = pos 4 *ℤ h.a *ℤ m.y -ℤ pos 2 *ℤ h.a *ℤ k h *ℤ m.z;
      z = pos 2 *ℤ h.a *ℤ D h *ℤ m.z;
    }

-- the point of a solution (X, Y, W)
unfoldable pub carried_back : Conic → Level → Triple → Point
carried_back h v m = normal (from_primed h (primed v m))

-- 4aD·G = D·G_x² + (Dy + kz)² + 4aΔ·z²: a point of the conic gives a solution of the levelled equation
unfoldable pub LevelledForm : Type 0
LevelledForm =
    (h : Conic) (p : Point) →
    let B : ℤ = D h *ℤ p.y +ℤ k h *ℤ p.z in
    pos 4 *ℤ h.a *ℤ D h *ℤ G h p
    ≡ D h *ℤ (Gx h p *ℤ Gx h p) +ℤ B *ℤ B +ℤ pos 4 *ℤ (h.a *ℤ Δ h) *ℤ (p.z *ℤ p.z)
