-- None by sign. Where D > 0 and aΔ > 0 the levelled form is positive at every triple that is not 0, so a·G is; and where G has one
-- sign its values at (1, 0, 0) and where two of X', Y', W' are 0 give D > 0 and aΔ > 0. Assumes nothing.
use mathlib.Core.Path.{◌≡◌, sym, ap, subst, subst₂, ◌∙◌}
use mathlib.Core.Logic.{◌≢◌, inl, inr, ◌↔◌}
use mathlib.Core.List.{[], ◌∷◌}
use Prim.Native.Nat.{ℕ, ◌*◌, ◌≤◌, ◌<◌}
use native.Mathlib.Nat.{mul-pos}
use lib.Dec.{lit<}
use lib.IntN.{ℤ, pos, neg_ℤ, ◌+ℤ◌, ◌-ℤ◌, ◌*ℤ◌, *ℤ-zero, zero-*ℤ, neg_ℤ-neg_ℤ}
use lib.Signed.{◌≤ℤ◌, ◌<ℤ◌, lt_z_yes, clash_ℤ}
use Rattle.whole.proofs.Cancel.{product_not_zero, other_factor_zero}
use Rattle.whole.proofs.Combination.{combine, ◌⊞◌, ◌⊠◌}
use Rattle.whole.proofs.Order.{Ways, below, equal, above, trichotomy, pos-<, zero-≤ℤ_pos, ≤ℤ_of-<ℤ, <ℤ_of-≤ℤ-≢, ≢-of-<ℤ}
use Rattle.whole.proofs.Products.{zero-≤ℤ-*, zero-≤ℤ_square, zero_of_square, zero-<ℤ_square, zero-<ℤ-*, *ℤ_cancel-<ℤ}
use Rattle.whole.proofs.Ring.{by_ring, reify}
use Rattle.whole.proofs.Sums.{zero-≤ℤ-+, negℤ-<ℤ, left_zero_of_sum, right_zero_of_sum}
use Rattle.legendre.specs.Equation.{OneSign}
use Rattle.legendre.proofs.Patterns.{product_negated}
use Rattle.point.specs.declared.Point.{Point}
use Rattle.point.proofs.Vector.{Zero, unit_x, unit_y, unit_z, one_not_zero}
use Rattle.conic.specs.Form.{G, Gx, D, Δ, k}
use Rattle.conic.specs.declared.conic.Conic.{Conic}
use Rattle.solve.specs.Demand2.{LevelledBy, OneSignEverywhere, SquareDiscriminant}
use Rattle.solve.specs.Level.{from_primed}
use Rattle.solve.specs.Solve.{start_at_infinity}
use Rattle.solve.proofs.Infinity.{start}
use Rattle.solve.proofs.LevelledForm.{B, levelled_form}
use Rattle.solve.proofs.Levelling.{form_from_primed, Levellable, positive_not_zero, g_positive, D-is, aΔ_is}

-- ---- products with a known sign

positive_factor : (c a : ℤ) → pos 0 ≤ℤ c → pos 0 <ℤ (c *ℤ a) → pos 0 <ℤ a
positive_factor c a c≥0 h = *ℤ_cancel-<ℤ {a = pos 0} {b = a} {c = c} c≥0 (subst (λ (n : ℤ). n <ℤ (c *ℤ a)) (sym (*ℤ-zero c)) h)

negative_product : {a b : ℤ} → a <ℤ pos 0 → b <ℤ pos 0 → pos 0 <ℤ (a *ℤ b)
negative_product {a} {b} h l = subst (λ (n : ℤ). pos 0 <ℤ n) (product_negated a b) (zero-<ℤ-* (negℤ-<ℤ h) (negℤ-<ℤ l))

negative_factor : (a b : ℤ) → a <ℤ pos 0 → pos 0 <ℤ (a *ℤ b) → b <ℤ pos 0
negative_factor a b h l =
    subst (λ (n : ℤ). n <ℤ pos 0) (neg_ℤ-neg_ℤ b)
    (negℤ-<ℤ (positive_factor (neg_ℤ a) (neg_ℤ b) (≤ℤ_of-<ℤ (negℤ-<ℤ h)) (subst (λ (n : ℤ). pos 0 <ℤ n) (sym (product_negated a b)) l)))

-- ---- D and aΔ positive: one sign everywhere

-- A, B and z vanish together only at 0
zero_of_levelled : (h : Conic) (p : Point) → h.a ≢ pos 0 → D h ≢ pos 0 → Gx h p ≡ pos 0 → B h p ≡ pos 0 → p.z ≡ pos 0 → Zero p
unfolding Gx B
zero_of_levelled h p a≢0 D≢0 A-is B-is z-is = (x_is, y_is, z-is)
  where
    y_is : p.y ≡ pos 0
    y_is =
        other_factor_zero D≢0
        (combine (pos 1 ⊠ B-is ⊞ neg_ℤ (k h) ⊠ z-is) (by_ring (D h ∷ k h ∷ p.y ∷ p.z ∷ []) (search reify depth 64 fits 9999) tt))

    x_is : p.x ≡ pos 0
    x_is =
        other_factor_zero (product_not_zero {a = pos 2} (positive_not_zero (lit< tt)) a≢0)
        (combine (pos 1 ⊠ A-is ⊞ neg_ℤ h.b ⊠ y_is ⊞ neg_ℤ h.d ⊠ z-is)
        (by_ring (h.a ∷ h.b ∷ h.d ∷ p.x ∷ p.y ∷ p.z ∷ []) (search reify depth 64 fits 9999) tt))

module _ (h : Conic) (D>0 : pos 0 <ℤ D h) (aΔ>0 : pos 0 <ℤ (h.a *ℤ Δ h)) where
  a≢0 : h.a ≢ pos 0
  a≢0 e = ≢-of-<ℤ aΔ>0 (sym (ap (λ (n : ℤ). n *ℤ Δ h) e ∙ zero-*ℤ (Δ h)))

  sum_positive : (p : Point) → ¬ Zero p →
      pos 0 <ℤ (D h *ℤ (Gx h p *ℤ Gx h p) +ℤ B h p *ℤ B h p +ℤ pos 4 *ℤ (h.a *ℤ Δ h) *ℤ (p.z *ℤ p.z))
  sum_positive p p≢0 = <ℤ_of-≤ℤ-≢ (zero-≤ℤ-+ first_two third) (λ e. p≢0 (all_zero (sym e)))
    where
      first : pos 0 ≤ℤ (D h *ℤ (Gx h p *ℤ Gx h p))
      first = zero-≤ℤ-* (≤ℤ_of-<ℤ D>0) (zero-≤ℤ_square (Gx h p))

      second : pos 0 ≤ℤ (B h p *ℤ B h p)
      second = zero-≤ℤ_square (B h p)

      first_two : pos 0 ≤ℤ (D h *ℤ (Gx h p *ℤ Gx h p) +ℤ B h p *ℤ B h p)
      first_two = zero-≤ℤ-+ first second

      four_aΔ : pos 0 <ℤ (pos 4 *ℤ (h.a *ℤ Δ h))
      four_aΔ = zero-<ℤ-* {a = pos 4} (lt_z_yes tt) aΔ>0

      third : pos 0 ≤ℤ (pos 4 *ℤ (h.a *ℤ Δ h) *ℤ (p.z *ℤ p.z))
      third = zero-≤ℤ-* (≤ℤ_of-<ℤ four_aΔ) (zero-≤ℤ_square p.z)

      not_zero : {n : ℤ} → pos 0 <ℤ n → n ≢ pos 0
      not_zero l e = ≢-of-<ℤ l (sym e)

      all_zero : D h *ℤ (Gx h p *ℤ Gx h p) +ℤ B h p *ℤ B h p +ℤ pos 4 *ℤ (h.a *ℤ Δ h) *ℤ (p.z *ℤ p.z) ≡ pos 0 → Zero p
      all_zero e =
          let two_zero = left_zero_of_sum first_two third e in
          zero_of_levelled h p a≢0 (not_zero D>0)
          (zero_of_square (Gx h p) (other_factor_zero (not_zero D>0) (left_zero_of_sum first second two_zero)))
          (zero_of_square (B h p) (right_zero_of_sum first second two_zero))
          (zero_of_square p.z (other_factor_zero (not_zero four_aΔ) (right_zero_of_sum first_two third e)))

  -- a·G > 0
  with_sign_of_a : (p : Point) → ¬ Zero p → pos 0 <ℤ (h.a *ℤ G h p)
  with_sign_of_a p p≢0 =
      positive_factor (pos 4 *ℤ D h) (h.a *ℤ G h p) (zero-≤ℤ-* {a = pos 4} (zero-≤ℤ_pos 4) (≤ℤ_of-<ℤ D>0))
      (subst (λ (n : ℤ). pos 0 <ℤ n) (sym (levelled_form h p) ∙ regrouped h.a (D h) (G h p)) (sum_positive p p≢0))
    where
      regrouped : (a D G : ℤ) → pos 4 *ℤ a *ℤ D *ℤ G ≡ pos 4 *ℤ D *ℤ (a *ℤ G)
      regrouped a D G = by_ring (a ∷ D ∷ G ∷ []) (search reify depth 64 fits 9999) tt

  pub one_sign_everywhere : OneSignEverywhere h
  one_sign_everywhere = by (trichotomy h.a (pos 0))
    where
      by : Ways h.a (pos 0) → OneSignEverywhere h
      by (below l) = inr (λ p p≢0. negative_factor h.a (G h p) l (with_sign_of_a p p≢0))
      by (equal e) = absurd (a≢0 e)
      by (above l) = inl (λ p p≢0. positive_factor h.a (G h p) (≤ℤ_of-<ℤ l) (with_sign_of_a p p≢0))

-- ---- one sign everywhere: D and aΔ positive

module _ (h : Conic) (one : OneSignEverywhere h) where
  same_sign : (p q : Point) → ¬ Zero p → ¬ Zero q → pos 0 <ℤ (G h p *ℤ G h q)
  same_sign p q p≢0 q≢0 = by one
    where
      by : OneSignEverywhere h → pos 0 <ℤ (G h p *ℤ G h q)
      by (inl plus) = zero-<ℤ-* (plus p p≢0) (plus q q≢0)
      by (inr minus) = negative_product (minus p p≢0) (minus q q≢0)

  pub not_square : ¬ SquareDiscriminant h
  not_square square =
      let s = start h square in
      ≢-of-<ℤ (same_sign (start_at_infinity h) (start_at_infinity h) s.not_zero s.not_zero) (sym (ap (λ (n : ℤ). n *ℤ n) s.on))

  G-at-unit-x : G h unit_x ≡ h.a
  unfolding G
  G-at-unit-x = by_ring (h.a ∷ h.b ∷ h.c ∷ h.d ∷ h.e ∷ h.f ∷ []) (search reify depth 64 fits 9999) tt

  -- a·G is positive, at the point of X', Y', W'
  value_positive : (m : Point) → ¬ Zero (from_primed h m) →
      pos 0 <ℤ (h.a *ℤ (pos 4 *ℤ h.a *ℤ D h *ℤ (D h *ℤ (m.x *ℤ m.x) +ℤ m.y *ℤ m.y +ℤ h.a *ℤ Δ h *ℤ (m.z *ℤ m.z))))
  value_positive m m≢0 =
      subst₂ (λ (n o : ℤ). pos 0 <ℤ (n *ℤ o)) G-at-unit-x (form_from_primed h m)
      (same_sign unit_x (from_primed h m) (λ zeros. one_not_zero zeros.0) m≢0)

  pub both_positive : Levellable h → (pos 0 <ℤ D h) × (pos 0 <ℤ (h.a *ℤ Δ h))
  unfolding from_primed
  both_positive ok = (D>0, aΔ>0)
    where
      not_zero : (n : ℤ) → n ≢ pos 0 → (m : ℕ) → 0 < m → pos m *ℤ n ≢ pos 0
      not_zero n n≢0 m l = product_not_zero {a = pos m} (positive_not_zero l) n≢0

      y_at_y : (a k : ℤ) → pos 4 *ℤ a *ℤ pos 1 -ℤ pos 2 *ℤ a *ℤ k *ℤ pos 0 ≡ pos 4 *ℤ a
      y_at_y a k = by_ring (a ∷ k ∷ []) (search reify depth 64 fits 9999) tt

      squared : pos 0 <ℤ (pos 4 *ℤ (h.a *ℤ h.a))
      squared = zero-<ℤ-* {a = pos 4} (lt_z_yes tt) (zero-<ℤ_square ok.a_not_zero)

      at_y : (a D E : ℤ) → a *ℤ (pos 4 *ℤ a *ℤ D *ℤ (D *ℤ pos 0 +ℤ pos 1 +ℤ E *ℤ pos 0)) ≡ pos 4 *ℤ (a *ℤ a) *ℤ D
      at_y a D E = by_ring (a ∷ D ∷ E ∷ []) (search reify depth 64 fits 9999) tt

      at_z : (a D E : ℤ) → a *ℤ (pos 4 *ℤ a *ℤ D *ℤ (D *ℤ pos 0 +ℤ pos 0 +ℤ E *ℤ pos 1)) ≡ pos 4 *ℤ (a *ℤ a) *ℤ D *ℤ E
      at_z a D E = by_ring (a ∷ D ∷ E ∷ []) (search reify depth 64 fits 9999) tt

      y_not_zero : ¬ Zero (from_primed h unit_y)
      y_not_zero zeros = not_zero h.a ok.a_not_zero 4 (lit< tt) (sym (y_at_y h.a (k h)) ∙ zeros.1)

      z_not_zero : ¬ Zero (from_primed h unit_z)
      z_not_zero zeros =
          product_not_zero (product_not_zero (not_zero h.a ok.a_not_zero 2 (lit< tt)) ok.D-not-zero) one_not_zero zeros.2

      D>0 : pos 0 <ℤ D h
      D>0 =
          positive_factor (pos 4 *ℤ (h.a *ℤ h.a)) (D h) (≤ℤ_of-<ℤ squared)
          (subst (λ (n : ℤ). pos 0 <ℤ n) (at_y h.a (D h) (h.a *ℤ Δ h)) (value_positive unit_y y_not_zero))

      aΔ>0 : pos 0 <ℤ (h.a *ℤ Δ h)
      aΔ>0 =
          positive_factor (pos 4 *ℤ (h.a *ℤ h.a) *ℤ D h) (h.a *ℤ Δ h) (≤ℤ_of-<ℤ (zero-<ℤ-* squared D>0))
          (subst (λ (n : ℤ). pos 0 <ℤ n) (at_z h.a (D h) (h.a *ℤ Δ h)) (value_positive unit_z z_not_zero))

-- ---- however D and aΔ are split

module _ {h : Conic} {d₁ e₁ : ℤ} {s t : ℕ} {p g q : ℤ} (v : LevelledBy h d₁ e₁ s t p g q) where
  pub sign_iff : Levellable h → OneSign p g q ↔ OneSignEverywhere h
  sign_iff ok = (everywhere, λ one. of_three (both_positive h one ok))
    where
      g≥0 : pos 0 ≤ℤ g
      g≥0 = ≤ℤ_of-<ℤ (g_positive v)

      square_positive : {n : ℕ} → 1 ≤ n → pos 0 <ℤ pos (n * n)
      square_positive l = pos-< (mul-pos l l)

      regrouped : (p g s : ℤ) → p *ℤ g *ℤ s ≡ g *ℤ s *ℤ p
      regrouped p g s = by_ring (p ∷ g ∷ s ∷ []) (search reify depth 64 fits 9999) tt

      everywhere : OneSign p g q → OneSignEverywhere h
      everywhere (inl (p>0, g>0, q>0)) =
          one_sign_everywhere h
          (subst (λ (n : ℤ). pos 0 <ℤ n) (sym (D-is v)) (zero-<ℤ-* (zero-<ℤ-* p>0 g>0) (square_positive v.s_positive)))
          (subst (λ (n : ℤ). pos 0 <ℤ n) (sym (aΔ_is v)) (zero-<ℤ-* (zero-<ℤ-* q>0 g>0) (square_positive v.t_positive)))
      everywhere (inr (p<0, g<0, q<0)) = clash_ℤ g<0 g≥0

      factor : {n : ℤ} (p : ℤ) (s : ℕ) → 1 ≤ s → n ≡ p *ℤ g *ℤ pos (s * s) → pos 0 <ℤ n → pos 0 <ℤ p
      factor p s l e n>0 =
          positive_factor (g *ℤ pos (s * s)) p (≤ℤ_of-<ℤ (zero-<ℤ-* (g_positive v) (square_positive l)))
          (subst (λ (n : ℤ). pos 0 <ℤ n) (e ∙ regrouped p g (pos (s * s))) n>0)

      of_three : (pos 0 <ℤ D h) × (pos 0 <ℤ (h.a *ℤ Δ h)) → OneSign p g q
      of_three (D>0, aΔ>0) = inl (factor p s v.s_positive (D-is v) D>0, g_positive v, factor q t v.t_positive (aΔ_is v) aΔ>0)
