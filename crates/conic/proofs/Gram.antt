-- The Gram identity: the determinant of the L-values of three points is 2Δ times the square of their own determinant, since the
-- values are a product of three matrices. So on a non-degenerate conic two points whose line lies on it are proportional, and no
-- point but 0 has three vanishing derivatives. Assumes nothing.
use mathlib.Core.Path.{◌≡◌, sym, ap, ◌∙◌}
use mathlib.Core.Logic.{◌≢◌}
use mathlib.Core.List.{[], ◌∷◌}
use native.Mathlib.Nat.{suc-ne-zero}
use lib.IntN.{ℤ, pos, negsuc, nat_abs, ◌+ℤ◌, ◌-ℤ◌, ◌*ℤ◌, +ℤ_idr, zero-*ℤ, *ℤ-zero}
use Rattle.whole.proofs.Ring.{by_ring, reify}
use Rattle.whole.proofs.Combination.{combine, ◌⊞◌, ◌⊠◌}
use Rattle.whole.proofs.Products.{*ℤ_cancel, zero_of_square}
use Rattle.whole.proofs.Cancel.{other_factor_zero}
use Rattle.point.specs.declared.Point.{Point}
use Rattle.point.proofs.Vector.{unit_x, unit_y, unit_z, Zero, Proportional}
use Rattle.conic.specs.Form.{G, Gx, Gy, Gz, L, Δ}
use Rattle.conic.specs.declared.conic.Conic.{Conic}
use Rattle.conic.proofs.Form.{L-self, L-symmetric}

-- ---- determinants

unfoldable pub det : Point → Point → Point → ℤ
det p s t =
    p.x *ℤ (s.y *ℤ t.z -ℤ s.z *ℤ t.y) -ℤ p.y *ℤ (s.x *ℤ t.z -ℤ s.z *ℤ t.x) +ℤ p.z *ℤ (s.x *ℤ t.y -ℤ s.y *ℤ t.x)

abbrev dot : Point → Point → ℤ
dot t s = t.x *ℤ s.x +ℤ t.y *ℤ s.y +ℤ t.z *ℤ s.z

-- the products of one row with three
abbrev row : Point → Point → Point → Point → Point
row r p s t = record { x = dot p r; y = dot s r; z = dot t r }

determinant_of_product : (a b c p s t : Point) →
    det (row a p s t) (row b p s t) (row c p s t) ≡ det a b c *ℤ det p s t
unfolding det
determinant_of_product a b c p s t =
    by_ring
    (a.x ∷ a.y ∷ a.z ∷ b.x ∷ b.y ∷ b.z ∷ c.x ∷ c.y ∷ c.z ∷
    p.x ∷ p.y ∷ p.z ∷ s.x ∷ s.y ∷ s.z ∷ t.x ∷ t.y ∷ t.z ∷ [])
    (search reify depth 64 fits 9999) tt

-- ---- the Gram identity

-- the three derivatives of G at a point, which are the products of the point with the rows of the matrix of 2G
abbrev gradient : Conic → Point → Point
gradient h p = record { x = Gx h p; y = Gy h p; z = Gz h p }

abbrev first_row : Conic → Point
first_row h = record { x = pos 2 *ℤ h.a; y = h.b; z = h.d }

abbrev second_row : Conic → Point
second_row h = record { x = h.b; y = pos 2 *ℤ h.c; z = h.e }

abbrev third_row : Conic → Point
third_row h = record { x = h.d; y = h.e; z = pos 2 *ℤ h.f }

determinant_of_matrix : (h : Conic) → det (first_row h) (second_row h) (third_row h) ≡ pos 2 *ℤ Δ h
unfolding det Δ
determinant_of_matrix h = by_ring (h.a ∷ h.b ∷ h.c ∷ h.d ∷ h.e ∷ h.f ∷ []) (search reify depth 64 fits 9999) tt

determinant_of_gradients : (h : Conic) (p s t : Point) →
    det (gradient h p) (gradient h s) (gradient h t) ≡ det p s t *ℤ (pos 2 *ℤ Δ h)
unfolding Gx Gy Gz
determinant_of_gradients h p s t =
    determinant_of_product p s t (first_row h) (second_row h) (third_row h)
    ∙ ap (λ m. det p s t *ℤ m) (determinant_of_matrix h)

-- L at one point and each of three
abbrev values : Conic → Point → Point → Point → Point → Point
values h r p s t = record { x = L h r p; y = L h r s; z = L h r t }

determinant_of_values : (h : Conic) (p s t : Point) →
    det (values h p p s t) (values h s p s t) (values h t p s t) ≡ det p s t *ℤ (pos 2 *ℤ Δ h) *ℤ det p s t
unfolding L
determinant_of_values h p s t =
    determinant_of_product (gradient h p) (gradient h s) (gradient h t) p s t
    ∙ ap (λ m. m *ℤ det p s t) (determinant_of_gradients h p s t)

-- half the determinant of the symmetric matrix with 2m, 2n, 2o in its diagonal and u, v, w beside it
abbrev pub gram_value : ℤ → ℤ → ℤ → ℤ → ℤ → ℤ → ℤ
gram_value m n o u v w =
    pos 4 *ℤ m *ℤ n *ℤ o +ℤ u *ℤ v *ℤ w -ℤ m *ℤ (w *ℤ w) -ℤ n *ℤ (v *ℤ v) -ℤ o *ℤ (u *ℤ u)

symmetric_determinant : (m n o u v w : ℤ) →
    det (record { x = pos 2 *ℤ m; y = u; z = v }) (record { x = u; y = pos 2 *ℤ n; z = w }) (record { x = v; y = w; z = pos 2 *ℤ o })
    ≡ pos 2 *ℤ gram_value m n o u v w
unfolding det
symmetric_determinant m n o u v w = by_ring (m ∷ n ∷ o ∷ u ∷ v ∷ w ∷ []) (search reify depth 64 fits 9999) tt

two_first : (k δ : ℤ) → pos 2 *ℤ (δ *ℤ (k *ℤ k)) ≡ k *ℤ (pos 2 *ℤ δ) *ℤ k
two_first k δ = by_ring (k ∷ δ ∷ []) (search reify depth 64 fits 9999) tt

two_not_zero : pos 2 ≢ pos 0
two_not_zero e = suc-ne-zero 1 (ap nat_abs e)

pub gram : (h : Conic) (p s t : Point) →
    Δ h *ℤ (det p s t *ℤ det p s t)
    ≡ gram_value (G h p) (G h s) (G h t) (L h p s) (L h p t) (L h s t)
gram h p s t =
    *ℤ_cancel (pos 2) two_not_zero
    (two_first (det p s t) (Δ h) ∙ sym (determinant_of_values h p s t) ∙ made_symmetric
    ∙ symmetric_determinant (G h p) (G h s) (G h t) (L h p s) (L h p t) (L h s t))
  where
    made_symmetric : det (values h p p s t) (values h s p s t) (values h t p s t) ≡
        det (record { x = pos 2 *ℤ G h p; y = L h p s; z = L h p t })
        (record { x = L h p s; y = pos 2 *ℤ G h s; z = L h s t })
        (record { x = L h p t; y = L h s t; z = pos 2 *ℤ G h t })
    made_symmetric = λ i.
        det (record { x = L-self h p i; y = L h p s; z = L h p t })
        (record { x = L-symmetric h s p i; y = L-self h s i; z = L h s t })
        (record { x = L-symmetric h t p i; y = L-symmetric h t s i; z = L-self h t i })

-- ---- its uses

value_vanishes : (m n o u v w : ℤ) → m ≡ pos 0 → v ≡ pos 0 → o *ℤ (u *ℤ u) ≡ pos 0 → gram_value m n o u v w ≡ pos 0
value_vanishes m n o u v w e f g =
    combine ((pos 4 *ℤ n *ℤ o -ℤ w *ℤ w) ⊠ e ⊞ (u *ℤ w -ℤ n *ℤ v) ⊠ f ⊞ negsuc 0 ⊠ g)
    (by_ring (m ∷ n ∷ o ∷ u ∷ v ∷ w ∷ []) (search reify depth 64 fits 9999) tt)

determinant_vanishes : (h : Conic) (p s t : Point) → Δ h ≢ pos 0 →
    G h p ≡ pos 0 → L h p t ≡ pos 0 → G h t *ℤ (L h p s *ℤ L h p s) ≡ pos 0 → det p s t ≡ pos 0
determinant_vanishes h p s t δ e f g =
    zero_of_square (det p s t)
    (other_factor_zero δ
    (gram h p s t ∙ value_vanishes (G h p) (G h s) (G h t) (L h p s) (L h p t) (L h s t) e f g))

-- a determinant with a unit vector is a minor of the other two
minor_x : (p t : Point) → p.y *ℤ t.z +ℤ det p unit_x t ≡ t.y *ℤ p.z
unfolding det
minor_x p t = by_ring (p.x ∷ p.y ∷ p.z ∷ t.x ∷ t.y ∷ t.z ∷ []) (search reify depth 64 fits 9999) tt

minor_y : (p t : Point) → t.x *ℤ p.z +ℤ det p unit_y t ≡ p.x *ℤ t.z
unfolding det
minor_y p t = by_ring (p.x ∷ p.y ∷ p.z ∷ t.x ∷ t.y ∷ t.z ∷ []) (search reify depth 64 fits 9999) tt

minor_z : (p t : Point) → p.x *ℤ t.y +ℤ det p unit_z t ≡ t.x *ℤ p.y
unfolding det
minor_z p t = by_ring (p.x ∷ p.y ∷ p.z ∷ t.x ∷ t.y ∷ t.z ∷ []) (search reify depth 64 fits 9999) tt

-- two points of the conic whose line lies on it are proportional
pub unseen_proportional : (h : Conic) (p t : Point) → Δ h ≢ pos 0 →
    G h p ≡ pos 0 → L h p t ≡ pos 0 → G h t ≡ pos 0 → Proportional p t
unseen_proportional h p t δ e f g =
    record {
      x_y = equal (minor_z p t) (none unit_z);
      x_z = sym (equal (minor_y p t) (none unit_y));
      y_z = equal (minor_x p t) (none unit_x);
    }
  where
    none : (s : Point) → det p s t ≡ pos 0
    none s = determinant_vanishes h p s t δ e f (ap (λ m. m *ℤ (L h p s *ℤ L h p s)) g ∙ zero-*ℤ (L h p s *ℤ L h p s))

    equal : {m n d : ℤ} → m +ℤ d ≡ n → d ≡ pos 0 → m ≡ n
    equal {m} e z = sym (+ℤ_idr m) ∙ ap (λ d. m +ℤ d) (sym z) ∙ e

-- L with a unit vector is a derivative
pub L-unit-x : (h : Conic) (p : Point) → L h p unit_x ≡ Gx h p
unfolding L
L-unit-x h p = by_ring (Gx h p ∷ Gy h p ∷ Gz h p ∷ []) (search reify depth 64 fits 9999) tt

pub L-unit-y : (h : Conic) (p : Point) → L h p unit_y ≡ Gy h p
unfolding L
L-unit-y h p = by_ring (Gx h p ∷ Gy h p ∷ Gz h p ∷ []) (search reify depth 64 fits 9999) tt

pub L-unit-z : (h : Conic) (p : Point) → L h p unit_z ≡ Gz h p
unfolding L
L-unit-z h p = by_ring (Gx h p ∷ Gy h p ∷ Gz h p ∷ []) (search reify depth 64 fits 9999) tt

number_x : (p : Point) → det p unit_y unit_z ≡ p.x
unfolding det
number_x p = by_ring (p.x ∷ p.y ∷ p.z ∷ []) (search reify depth 64 fits 9999) tt

number_y : (p : Point) → det p unit_z unit_x ≡ p.y
unfolding det
number_y p = by_ring (p.x ∷ p.y ∷ p.z ∷ []) (search reify depth 64 fits 9999) tt

number_z : (p : Point) → det p unit_x unit_y ≡ p.z
unfolding det
number_z p = by_ring (p.x ∷ p.y ∷ p.z ∷ []) (search reify depth 64 fits 9999) tt

flat_vanishes : (h : Conic) (p s t : Point) → Δ h ≢ pos 0 →
    G h p ≡ pos 0 → L h p s ≡ pos 0 → L h p t ≡ pos 0 → det p s t ≡ pos 0
flat_vanishes h p s t δ e f g =
    determinant_vanishes h p s t δ e g
    (ap (λ m. G h t *ℤ (m *ℤ L h p s)) f ∙ ap (λ m. G h t *ℤ m) (zero-*ℤ (L h p s)) ∙ *ℤ-zero (G h t))

-- on the conic the derivatives by x and y vanish together only at infinity
pub at_infinity_if_flat : (h : Conic) (p : Point) → Δ h ≢ pos 0 →
    G h p ≡ pos 0 → Gx h p ≡ pos 0 → Gy h p ≡ pos 0 → p.z ≡ pos 0
at_infinity_if_flat h p δ on e f =
    sym (number_z p) ∙ flat_vanishes h p unit_x unit_y δ on (L-unit-x h p ∙ e) (L-unit-y h p ∙ f)

L-self-vanishes : (h : Conic) (p : Point) → Gx h p ≡ pos 0 → Gy h p ≡ pos 0 → Gz h p ≡ pos 0 → L h p p ≡ pos 0
unfolding L
L-self-vanishes h p e f g =
    combine (p.x ⊠ e ⊞ p.y ⊠ f ⊞ p.z ⊠ g)
    (by_ring (p.x ∷ p.y ∷ p.z ∷ Gx h p ∷ Gy h p ∷ Gz h p ∷ []) (search reify depth 64 fits 9999) tt)

-- all three vanish together only at 0
pub zero_if_singular : (h : Conic) (p : Point) → Δ h ≢ pos 0 →
    Gx h p ≡ pos 0 → Gy h p ≡ pos 0 → Gz h p ≡ pos 0 → Zero p
zero_if_singular h p δ e f g = (
  sym (number_x p) ∙ flat_vanishes h p unit_y unit_z δ on (L-unit-y h p ∙ f) (L-unit-z h p ∙ g),
  sym (number_y p) ∙ flat_vanishes h p unit_z unit_x δ on (L-unit-z h p ∙ g) (L-unit-x h p ∙ e),
  at_infinity_if_flat h p δ on e f,
)
  where
    on : G h p ≡ pos 0
    on = other_factor_zero two_not_zero (sym (L-self h p) ∙ L-self-vanishes h p e f g)
