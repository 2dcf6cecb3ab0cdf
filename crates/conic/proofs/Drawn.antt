-- The second point of a line through a point of the conic, R = G(T)P − L(P, T)T: G(R) = G(T)²·G(P), so it is on the conic when P is.
-- Assumes nothing.
use mathlib.Core.Path.{◌≡◌, ap, ◌∙◌}
use mathlib.Core.List.{[], ◌∷◌}
use lib.IntN.{ℤ, pos, neg_ℤ, ◌+ℤ◌, ◌-ℤ◌, ◌*ℤ◌, *ℤ-zero}
use Rattle.whole.proofs.Ring.{by_ring, reify}
use Rattle.point.specs.declared.Point.{Point}
use Rattle.point.proofs.Vector.{line, same_point}
use Rattle.conic.specs.Form.{G, L, drawn}
use Rattle.conic.specs.declared.conic.Conic.{Conic}
use Rattle.conic.proofs.Form.{G-line}

minus : (g l m n : ℤ) → g *ℤ m -ℤ l *ℤ n ≡ g *ℤ m +ℤ neg_ℤ l *ℤ n
minus g l m n = by_ring (g ∷ l ∷ m ∷ n ∷ []) (search reify depth 64 fits 9999) tt

pub drawn_line : (h : Conic) (p t : Point) → drawn h p t ≡ line (G h t) p (neg_ℤ (L h p t)) t
unfolding drawn
drawn_line h p t =
    same_point
    (minus (G h t) (L h p t) p.x t.x)
    (minus (G h t) (L h p t) p.y t.y)
    (minus (G h t) (L h p t) p.z t.z)

square_left : (m l g : ℤ) → g *ℤ g *ℤ m +ℤ g *ℤ neg_ℤ l *ℤ l +ℤ neg_ℤ l *ℤ neg_ℤ l *ℤ g ≡ g *ℤ g *ℤ m
square_left m l g = by_ring (m ∷ l ∷ g ∷ []) (search reify depth 64 fits 9999) tt

-- G(R) = G(T)²·G(P)
pub G-drawn : (h : Conic) (p t : Point) → G h (drawn h p t) ≡ G h t *ℤ G h t *ℤ G h p
G-drawn h p t =
    ap (G h) (drawn_line h p t) ∙ G-line h p t (G h t) (neg_ℤ (L h p t)) ∙ square_left (G h p) (L h p t) (G h t)

pub drawn_on : (h : Conic) (p t : Point) → G h p ≡ pos 0 → G h (drawn h p t) ≡ pos 0
drawn_on h p t e = G-drawn h p t ∙ ap (λ m. G h t *ℤ G h t *ℤ m) e ∙ *ℤ-zero (G h t *ℤ G h t)
