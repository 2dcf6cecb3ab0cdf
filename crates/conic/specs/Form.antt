-- A conic's polynomial G over all whole numbers, its three partial derivatives, L, the second point of a line, and the paper's D, Δ
-- and k. Assumes nothing.
use Rattle.std.specs.Prelude.{ℤ, pos, ◌+ℤ◌, ◌-ℤ◌, ◌*ℤ◌}
use Rattle.point.specs.declared.Point.{Point}
use Rattle.conic.specs.declared.conic.Conic.{Conic}

-- G = ax² + bxy + cy² + dxz + eyz + fz²
unfoldable pub G : Conic → Point → ℤ
G h p =
    h.a *ℤ (p.x *ℤ p.x) +ℤ h.b *ℤ (p.x *ℤ p.y) +ℤ h.c *ℤ (p.y *ℤ p.y) +ℤ
    h.d *ℤ (p.x *ℤ p.z) +ℤ h.e *ℤ (p.y *ℤ p.z) +ℤ h.f *ℤ (p.z *ℤ p.z)

-- 2ax + by + dz
unfoldable pub Gx : Conic → Point → ℤ
Gx h p = pos 2 *ℤ h.a *ℤ p.x +ℤ h.b *ℤ p.y +ℤ h.d *ℤ p.z

-- bx + 2cy + ez
unfoldable pub Gy : Conic → Point → ℤ
Gy h p = h.b *ℤ p.x +ℤ pos 2 *ℤ h.c *ℤ p.y +ℤ h.e *ℤ p.z

-- dx + ey + 2fz
unfoldable pub Gz : Conic → Point → ℤ
Gz h p = h.d *ℤ p.x +ℤ h.e *ℤ p.y +ℤ pos 2 *ℤ h.f *ℤ p.z

-- T's three numbers times the three partial derivatives of G at S
unfoldable pub L : Conic → Point → Point → ℤ
L h s t = t.x *ℤ Gx h s +ℤ t.y *ℤ Gy h s +ℤ t.z *ℤ Gz h s

-- D = 4ac − b²
unfoldable pub D : Conic → ℤ
D h = pos 4 *ℤ h.a *ℤ h.c -ℤ h.b *ℤ h.b

-- Δ = 4acf + bde − ae² − cd² − fb²
unfoldable pub Δ : Conic → ℤ
Δ h =
    pos 4 *ℤ h.a *ℤ h.c *ℤ h.f +ℤ h.b *ℤ h.d *ℤ h.e -ℤ h.a *ℤ (h.e *ℤ h.e) -ℤ h.c *ℤ (h.d *ℤ h.d)
    -ℤ h.f *ℤ (h.b *ℤ h.b)

-- k = 2ae − bd
unfoldable pub k : Conic → ℤ
k h = pos 2 *ℤ h.a *ℤ h.e -ℤ h.b *ℤ h.d

-- G(T)·S − L(S, T)·T
unfoldable pub drawn : Conic → Point → Point → Point
drawn h s t =
    record {
      x = G h t *ℤ s.x -ℤ L h s t *ℤ t.x;
      y = G h t *ℤ s.y -ℤ L h s t *ℤ t.y;
      z = G h t *ℤ s.z -ℤ L h s t *ℤ t.z;
    }
