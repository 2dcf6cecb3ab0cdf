-- `conic::conic::Conic::at` meets its contract: by the sizes of the numbers each step fits, and G's six terms are the two sums of three
-- in another order. Assumes nothing.
use mathlib.Core.Path.{◌≡◌}
use mathlib.Core.List.{[], ◌∷◌}
use Prim.Native.Nat.{◌*◌}
use lib.IntN.{ℤ, ◌+ℤ◌, ◌*ℤ◌}
use mir.Syntax.{w64}
use Rattle.whole.proofs.Ring.{by_ring, reify}
use Rattle.whole.proofs.Signed.{sizes, fits, reads, bounds}
use Rattle.point.specs.Paper.{coefficient_limit, point_limit}
use Rattle.point.specs.declared.Point.{Point}
use Rattle.conic.specs.Form.{G}
use Rattle.conic.specs.declared.conic.Conic.{Conic}
use Rattle.conic.proofs.Products.{products_fit}
use Rattle.conic.proofs.conic.Conic.at.Goals as goal

in_order : (a b c d e f : ℤ) → (a +ℤ c +ℤ f) +ℤ (b +ℤ d +ℤ e) ≡ a +ℤ b +ℤ c +ℤ d +ℤ e +ℤ f
in_order a b c d e f = by_ring (a ∷ b ∷ c ∷ d ∷ e ∷ f ∷ []) (search reify depth 64 fits 9999) tt

squares_and_products :
    (h : Conic) (p : Point) →
    (h.a *ℤ (p.x *ℤ p.x) +ℤ h.c *ℤ (p.y *ℤ p.y) +ℤ h.f *ℤ (p.z *ℤ p.z)) +ℤ
    (h.b *ℤ (p.x *ℤ p.y) +ℤ h.d *ℤ (p.x *ℤ p.z) +ℤ h.e *ℤ (p.y *ℤ p.z)) ≡ G h p
unfolding G
squares_and_products h p = in_order (h.a *ℤ (p.x *ℤ p.x)) _ _ _ _ _

pub overflow_mul-x : goal.overflow_mul-x
overflow_mul-x c = fits w64 (search sizes depth 60 fits 9999) tt

pub overflow_mul-y : goal.overflow_mul-y
overflow_mul-y c = fits w64 (search sizes depth 60 fits 9999) tt

pub overflow_mul-z : goal.overflow_mul-z
overflow_mul-z c = fits w64 (search sizes depth 60 fits 9999) tt

pub dot-requires : goal.dot-requires
dot-requires c =
    products_fit coefficient_limit (point_limit * point_limit)
    (bounds (search sizes depth 60 fits 9999) tt)
    (bounds (search sizes depth 60 fits 9999) tt)
    (bounds (search sizes depth 60 fits 9999) tt)
    (bounds (search sizes depth 60 fits 9999) tt)
    (bounds (search sizes depth 60 fits 9999) tt)
    (bounds (search sizes depth 60 fits 9999) tt)
    tt

pub overflow_mul-x-2 : goal.overflow_mul-x-2
overflow_mul-x-2 c = fits w64 (search sizes depth 60 fits 9999) tt

pub overflow_mul-x-3 : goal.overflow_mul-x-3
overflow_mul-x-3 c = fits w64 (search sizes depth 60 fits 9999) tt

pub overflow_mul-y-2 : goal.overflow_mul-y-2
overflow_mul-y-2 c = fits w64 (search sizes depth 60 fits 9999) tt

pub dot-requires-2 : goal.dot-requires-2
dot-requires-2 c =
    products_fit coefficient_limit (point_limit * point_limit)
    (bounds (search sizes depth 60 fits 9999) tt)
    (bounds (search sizes depth 60 fits 9999) tt)
    (bounds (search sizes depth 60 fits 9999) tt)
    (bounds (search sizes depth 60 fits 9999) tt)
    (bounds (search sizes depth 60 fits 9999) tt)
    (bounds (search sizes depth 60 fits 9999) tt)
    tt

pub overflow_add-result : goal.overflow_add-result
overflow_add-result c = fits w64 (search sizes depth 60 fits 9999) tt

pub returns : goal.returns
returns c = reads (search sizes depth 60 fits 9999) tt (squares_and_products _ _)
