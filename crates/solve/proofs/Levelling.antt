-- From the conic to the levelled equation and back: 4aD·G = D·A² + B² + 4aΔ·z², with A the derivative by x and B = Dy + kz, so a
-- zero of G gives a solution, and a solution a zero of G, with z ≠ 0 where −D is no square. Assumes nothing.
use mathlib.Core.Path.{◌≡◌, refl, sym, ap, subst, subst₂, ◌∙◌}
use mathlib.Core.Logic.{◌≢◌}
use mathlib.Core.List.{[], ◌∷◌}
use Prim.Native.Nat.{ℕ, ◌*◌, ◌<◌, ◌∣◌}
use native.Mathlib.Nat.{mul-dvd-mul, one-mul}
use native.Mathlib.Omega.{arith}
use lib.IntN.{ℤ, pos, negsuc, neg_ℤ, nat_abs, ◌+ℤ◌, ◌*ℤ◌, *ℤ_comm, *ℤ-zero}
use lib.Signed.{quot_z, ◌<ℤ◌}
use Rattle.whole.proofs.Cancel.{product_not_zero, other_factor_zero}
use Rattle.whole.proofs.Combination.{combine, ◌⊞◌, ◌⊠◌}
use Rattle.whole.proofs.Order.{pos-<, ≢-of-<ℤ}
use Rattle.whole.proofs.Products.{*ℤ_cancel, zero_of_square}
use Rattle.whole.proofs.Quotient.{quot_exact, quot_is}
use Rattle.whole.proofs.Ring.{by_ring, reify}
use Rattle.whole.proofs.Size.{nat_abs-*}
use Rattle.number.specs.Divides.{◌∣ℤ◌}
use Rattle.number.specs.Gcd.{gcd_of, Coprime}
use Rattle.number.specs.Squarefree.{Squarefree, free_part, square_part}
use Rattle.number.proofs.Divides.{sizes_divide, divides_by_sizes}
use Rattle.number.proofs.Gcd.{gcd_divides_left, gcd_divides_right, gcd_positive_left, quotients_are_coprime, coprime_of_common_divisors, coprime_symmetric}
use Rattle.number.proofs.Squarefree.{squarefree_positive, squarefree_same_size, squarefree_divisor, one_squarefree, root_divides_root, squarefree_divides_root}
use Rattle.number.proofs.SquarefreeSplit.{split_is, split_equals}
use Rattle.legendre.specs.Equation.{Levelled, Solution, Solvable, form}
use Rattle.legendre.specs.declared.outcome.Triple.{Triple}
use Rattle.point.specs.declared.Point.{Point}
use Rattle.conic.specs.Form.{G, Gx, D, Δ, k}
use Rattle.conic.specs.declared.conic.Conic.{Conic}
use Rattle.solve.specs.Demand2.{LevelledBy, SquareDiscriminant}
use Rattle.solve.specs.Level.{LevelledForm, level_of, level_from, primed, from_primed}
use Rattle.solve.specs.declared.level.Level.{Level}
use Rattle.solve.proofs.LevelledForm.{B, levelled_form}

-- ---- the two identities

pub levelled_form_of_conic : LevelledForm
unfolding LevelledForm B
levelled_form_of_conic = levelled_form

pub form_from_primed : (h : Conic) (m : Point) →
    G h (from_primed h m)
    ≡ pos 4 *ℤ h.a *ℤ D h *ℤ (D h *ℤ (m.x *ℤ m.x) +ℤ m.y *ℤ m.y +ℤ h.a *ℤ Δ h *ℤ (m.z *ℤ m.z))
unfolding G D Δ k from_primed
form_from_primed h m =
    by_ring (h.a ∷ h.b ∷ h.c ∷ h.d ∷ h.e ∷ h.f ∷ m.x ∷ m.y ∷ m.z ∷ []) (search reify depth 64 fits 9999) tt

-- ---- the conics that are levelled

pub record Levellable (h : Conic) : Type 0 where
  pub a_not_zero : h.a ≢ pos 0
  pub D-not-zero : D h ≢ pos 0
  pub aΔ_not_zero : h.a *ℤ Δ h ≢ pos 0

-- where a = 0, −D = b²
pub levellable : {h : Conic} → ¬ (Δ h ≡ pos 0) → ¬ SquareDiscriminant h → Levellable h
unfolding D
levellable {h} Δ≢0 not_square =
    record {
      a_not_zero = a≢0;
      D-not-zero = λ e. not_square (pos 0, ap neg_ℤ e);
      aΔ_not_zero = product_not_zero a≢0 Δ≢0;
    }
  where
    a≢0 : h.a ≢ pos 0
    a≢0 e =
        not_square
        (h.b, combine (negsuc 3 *ℤ h.c ⊠ e) (by_ring (h.a ∷ h.b ∷ h.c ∷ []) (search reify depth 64 fits 9999) tt))

pub levelled_by_own : {h : Conic} → Levellable h →
    LevelledBy h (free_part (D h)) (free_part (h.a *ℤ Δ h)) (square_part (D h)) (square_part (h.a *ℤ Δ h))
    (level_of h).p (level_of h).g (level_of h).q
unfolding level_of level_from
levelled_by_own {h} ok =
    record {
      squarefree_d₁ = (split_is (D h) ok.D-not-zero).squarefree;
      squarefree_e₁ = (split_is (h.a *ℤ Δ h) ok.aΔ_not_zero).squarefree;
      s_positive = (split_is (D h) ok.D-not-zero).root_positive;
      t_positive = (split_is (h.a *ℤ Δ h) ok.aΔ_not_zero).root_positive;
      D-split = (split_is (D h) ok.D-not-zero).product;
      aΔ_split = (split_is (h.a *ℤ Δ h) ok.aΔ_not_zero).product;
      g_is_gcd = refl;
      p_quotient = exact d₁ (gcd_of (nat_abs d₁) (nat_abs e₁)) (gcd_divides_left (nat_abs d₁) (nat_abs e₁));
      q_quotient = exact e₁ (gcd_of (nat_abs d₁) (nat_abs e₁)) (gcd_divides_right (nat_abs d₁) (nat_abs e₁));
    }
  where
    d₁ : ℤ
    d₁ = free_part (D h)

    e₁ : ℤ
    e₁ = free_part (h.a *ℤ Δ h)

    exact : (a : ℤ) (n : ℕ) → n ∣ nat_abs a → a ≡ quot_z a (pos n) *ℤ pos n
    exact a n d = sym (quot_exact a (pos n) d) ∙ *ℤ_comm (pos n) (quot_z a (pos n))

-- ---- arithmetic of a levelling

coprime_factors : (a b : ℤ) {n : ℤ} → n ≡ a *ℤ b → Squarefree n → Coprime a b
coprime_factors a b e free =
    coprime_of_common_divisors {a = a} {b = b} λ d l m. free.no_square d (rw (e, nat_abs-* a b) (mul-dvd-mul d d l m))

-- n·x² = m² with x ≠ 0: x divides m
square_of_quotient : (n x m : ℤ) → x ≢ pos 0 → n *ℤ (x *ℤ x) ≡ m *ℤ m → (r : ℤ) × (n ≡ r *ℤ r)
square_of_quotient n x m x≢0 e =
    (divided.quotient, *ℤ_cancel (x *ℤ x) (product_not_zero x≢0 x≢0) (root_times n x m divided.quotient divided.multiple e))
  where
    squares : (x *ℤ x) ∣ℤ (m *ℤ m)
    squares = record { quotient = n; multiple = sym e }

    divided : x ∣ℤ m
    divided =
        divides_by_sizes x m
        (root_divides_root (nat_abs x) (nat_abs m) one_squarefree
        (rw (one-mul, ← nat_abs-* x x, ← nat_abs-* m m) (sizes_divide squares)))

    root_times : (n x m r : ℤ) → m ≡ r *ℤ x → n *ℤ (x *ℤ x) ≡ m *ℤ m → x *ℤ x *ℤ n ≡ x *ℤ x *ℤ (r *ℤ r)
    root_times n x m r d e =
        combine (pos 1 ⊠ e ⊞ (m +ℤ r *ℤ x) ⊠ d) (by_ring (n ∷ x ∷ m ∷ r ∷ []) (search reify depth 64 fits 9999) tt)

pub positive_not_zero : {n : ℕ} → 0 < n → pos n ≢ pos 0
positive_not_zero h e = ≢-of-<ℤ (pos-< h) (sym e)

-- g divides B², with E for aΔ
square_divided : (p g q s t A B z D E : ℤ) → D ≡ p *ℤ g *ℤ (s *ℤ s) → E ≡ q *ℤ g *ℤ (t *ℤ t) →
    D *ℤ (A *ℤ A) +ℤ B *ℤ B +ℤ pos 4 *ℤ E *ℤ (z *ℤ z) ≡ pos 0 → g ∣ℤ (B *ℤ B)
square_divided p g q s t A B z D E D-is E-is zero_sum =
    record {
      quotient = neg_ℤ (p *ℤ (s *ℤ s) *ℤ (A *ℤ A) +ℤ pos 4 *ℤ q *ℤ (t *ℤ t) *ℤ (z *ℤ z));
      multiple =
          combine (pos 1 ⊠ zero_sum ⊞ neg_ℤ (A *ℤ A) ⊠ D-is ⊞ neg_ℤ (pos 4 *ℤ (z *ℤ z)) ⊠ E-is)
          (by_ring (p ∷ g ∷ q ∷ s ∷ t ∷ A ∷ B ∷ z ∷ D ∷ E ∷ []) (search reify depth 64 fits 9999) tt);
    }

-- g·(pX² + gY² + qW²) is the levelled form, at X = sA, gY = B, W = 2tz
levelled_solution : (p g q s t A B Y z D E : ℤ) → D ≡ p *ℤ g *ℤ (s *ℤ s) → E ≡ q *ℤ g *ℤ (t *ℤ t) → B ≡ Y *ℤ g →
    D *ℤ (A *ℤ A) +ℤ B *ℤ B +ℤ pos 4 *ℤ E *ℤ (z *ℤ z) ≡ pos 0 →
    g *ℤ form p g q (s *ℤ A) Y (pos 2 *ℤ t *ℤ z) ≡ pos 0
levelled_solution p g q s t A B Y z D E D-is E-is B-is zero_sum =
    combine (pos 1 ⊠ zero_sum ⊞ neg_ℤ (A *ℤ A) ⊠ D-is ⊞ neg_ℤ (pos 4 *ℤ (z *ℤ z)) ⊠ E-is ⊞ neg_ℤ (B +ℤ Y *ℤ g) ⊠ B-is)
    (by_ring (p ∷ g ∷ q ∷ s ∷ t ∷ A ∷ B ∷ Y ∷ z ∷ D ∷ E ∷ []) (search reify depth 64 fits 9999) tt)

-- D·X'² + Y'² + E·W'² = s²t²g·(pX² + gY² + qW²)
primed_zero : (p g q s t x y w D E : ℤ) → D ≡ p *ℤ g *ℤ (s *ℤ s) → E ≡ q *ℤ g *ℤ (t *ℤ t) → form p g q x y w ≡ pos 0 →
    D *ℤ (t *ℤ x *ℤ (t *ℤ x)) +ℤ s *ℤ t *ℤ g *ℤ y *ℤ (s *ℤ t *ℤ g *ℤ y) +ℤ E *ℤ (s *ℤ w *ℤ (s *ℤ w)) ≡ pos 0
primed_zero p g q s t x y w D E D-is E-is equation =
    combine (t *ℤ x *ℤ (t *ℤ x) ⊠ D-is ⊞ s *ℤ w *ℤ (s *ℤ w) ⊠ E-is ⊞ s *ℤ s *ℤ (t *ℤ t) *ℤ g ⊠ equation)
    (by_ring (p ∷ g ∷ q ∷ s ∷ t ∷ x ∷ y ∷ w ∷ D ∷ E ∷ []) (search reify depth 64 fits 9999) tt)

-- −D·X² = (sgY)² where W = 0
square_where_zero : (p g q s x y w D : ℤ) → D ≡ p *ℤ g *ℤ (s *ℤ s) → form p g q x y w ≡ pos 0 → w ≡ pos 0 →
    neg_ℤ D *ℤ (x *ℤ x) ≡ s *ℤ g *ℤ y *ℤ (s *ℤ g *ℤ y)
square_where_zero p g q s x y w D D-is equation w-is =
    combine (neg_ℤ (x *ℤ x) ⊠ D-is ⊞ neg_ℤ (g *ℤ (s *ℤ s)) ⊠ equation ⊞ g *ℤ (s *ℤ s) *ℤ q *ℤ w ⊠ w-is)
    (by_ring (p ∷ g ∷ q ∷ s ∷ x ∷ y ∷ w ∷ D ∷ []) (search reify depth 64 fits 9999) tt)

-- ---- however D and aΔ are split

module _ {h : Conic} {d₁ e₁ : ℤ} {s t : ℕ} {p g q : ℤ} (v : LevelledBy h d₁ e₁ s t p g q) where
  abbrev pub level : Level
  level = record { p = p; g = g; q = q; s = pos s; t = pos t }

  abbrev divisor : ℕ
  divisor = gcd_of (nat_abs d₁) (nat_abs e₁)

  divisor_positive : 0 < divisor
  divisor_positive = gcd_positive_left (nat_abs d₁) (nat_abs e₁) (squarefree_positive v.squarefree_d₁)

  pub g_positive : pos 0 <ℤ g
  g_positive = subst (λ (n : ℤ). pos 0 <ℤ n) (sym v.g_is_gcd) (pos-< divisor_positive)

  g≢0 : g ≢ pos 0
  g≢0 e = ≢-of-<ℤ g_positive (sym e)

  pub D-is : D h ≡ p *ℤ g *ℤ pos (s * s)
  D-is = v.D-split ∙ ap (λ (n : ℤ). n *ℤ pos (s * s)) v.p_quotient

  pub aΔ_is : h.a *ℤ Δ h ≡ q *ℤ g *ℤ pos (t * t)
  aΔ_is = v.aΔ_split ∙ ap (λ (n : ℤ). n *ℤ pos (t * t)) v.q_quotient

  p_is : quot_z d₁ (pos divisor) ≡ p
  p_is = ap (quot_z d₁) (sym v.g_is_gcd) ∙ quot_is d₁ g g≢0 (*ℤ_comm g p ∙ sym v.p_quotient)

  q_is : quot_z e₁ (pos divisor) ≡ q
  q_is = ap (quot_z e₁) (sym v.g_is_gcd) ∙ quot_is e₁ g g≢0 (*ℤ_comm g q ∙ sym v.q_quotient)

  -- the squarefree split is unique
  pub level_unique : level_of h ≡ level
  unfolding level_of level_from
  level_unique =
      (λ i. level_from (D-parts.0 i) (D-parts.1 i) (aΔ_parts.0 i) (aΔ_parts.1 i))
      ∙ (λ i. record { p = p_is i; g = sym v.g_is_gcd i; q = q_is i; s = pos s; t = pos t })
    where
      D-parts : (free_part (D h) ≡ d₁) × (square_part (D h) ≡ s)
      D-parts = split_equals (record { product = v.D-split; root_positive = v.s_positive; squarefree = v.squarefree_d₁ })

      aΔ_parts : (free_part (h.a *ℤ Δ h) ≡ e₁) × (square_part (h.a *ℤ Δ h) ≡ t)
      aΔ_parts = split_equals (record { product = v.aΔ_split; root_positive = v.t_positive; squarefree = v.squarefree_e₁ })

  pub levelled : Levelled p g q
  levelled =
      record {
        squarefree_p = squarefree_divisor (sizes_divide (factor p v.p_quotient)) v.squarefree_d₁;
        squarefree_g = squarefree_divisor (sizes_divide (record { quotient = p; multiple = v.p_quotient })) v.squarefree_d₁;
        squarefree_q = squarefree_divisor (sizes_divide (factor q v.q_quotient)) v.squarefree_e₁;
        coprime_pg = coprime_factors p g v.p_quotient v.squarefree_d₁;
        coprime_gq = coprime_symmetric (coprime_factors q g v.q_quotient v.squarefree_e₁);
        coprime_qp = coprime_symmetric (subst₂ Coprime p_is q_is (quotients_are_coprime d₁ e₁ divisor divisor_positive refl));
      }
    where
      factor : (a : ℤ) {b : ℤ} → b ≡ a *ℤ g → a ∣ℤ b
      factor a e = record { quotient = g; multiple = e ∙ *ℤ_comm a g }

  -- a zero of G with z ≠ 0 gives a solution
  pub down : (at : Point) → G h at ≡ pos 0 → at.z ≢ pos 0 → Solvable p g q
  down at on z≢0 =
      record {
        x = pos s *ℤ Gx h at;
        y = divided.quotient;
        w = pos (2 * t) *ℤ at.z;
        solution = record {
          equation =
              other_factor_zero g≢0
              (levelled_solution p g q (pos s) (pos t) (Gx h at) (B h at) divided.quotient at.z (D h) (h.a *ℤ Δ h) D-is aΔ_is
              divided.multiple zero_sum);
          not_all_zero = λ zeros. product_not_zero (positive_not_zero (omega (arith, v.t_positive))) z≢0 zeros.2;
        };
      }
    where
      zero_sum : D h *ℤ (Gx h at *ℤ Gx h at) +ℤ B h at *ℤ B h at +ℤ pos 4 *ℤ (h.a *ℤ Δ h) *ℤ (at.z *ℤ at.z) ≡ pos 0
      zero_sum = sym (levelled_form h at) ∙ ap (λ (n : ℤ). pos 4 *ℤ h.a *ℤ D h *ℤ n) on ∙ *ℤ-zero (pos 4 *ℤ h.a *ℤ D h)

      square : g ∣ℤ (B h at *ℤ B h at)
      square = square_divided p g q (pos s) (pos t) (Gx h at) (B h at) at.z (D h) (h.a *ℤ Δ h) D-is aΔ_is zero_sum

      divided : g ∣ℤ B h at
      divided =
          divides_by_sizes g (B h at)
          (squarefree_divides_root (nat_abs (B h at)) (squarefree_same_size refl levelled.squarefree_g)
          (subst (λ (n : ℕ). nat_abs g ∣ n) (nat_abs-* (B h at) (B h at)) (sizes_divide square)))

  -- a solution gives a zero of G
  pub up : (m : Triple) → form p g q (pos m.x) (pos m.y) (pos m.w) ≡ pos 0 → G h (from_primed h (primed level m)) ≡ pos 0
  unfolding primed
  up m equation =
      form_from_primed h (primed level m)
      ∙ ap (λ (n : ℤ). pos 4 *ℤ h.a *ℤ D h *ℤ n)
      (primed_zero p g q (pos s) (pos t) (pos m.x) (pos m.y) (pos m.w) (D h) (h.a *ℤ Δ h) D-is aΔ_is equation)
      ∙ *ℤ-zero (pos 4 *ℤ h.a *ℤ D h)

  -- W ≠ 0 in every solution, or −D would be a square
  pub w_not_zero : {x y w : ℤ} → ¬ SquareDiscriminant h → Solution p g q x y w → w ≢ pos 0
  w_not_zero {x} {y} {w} not_square solution w-is = not_square (square_of_quotient (neg_ℤ (D h)) x m x≢0 squares)
    where
      m : ℤ
      m = pos s *ℤ g *ℤ y

      squares : neg_ℤ (D h) *ℤ (x *ℤ x) ≡ m *ℤ m
      squares = square_where_zero p g q (pos s) x y w (D h) D-is solution.equation w-is

      y_is : x ≡ pos 0 → y ≡ pos 0
      y_is x_is =
          other_factor_zero (product_not_zero (positive_not_zero v.s_positive) g≢0)
          (zero_of_square m (sym squares ∙ ap (λ (n : ℤ). neg_ℤ (D h) *ℤ (n *ℤ n)) x_is ∙ *ℤ-zero (neg_ℤ (D h))))

      x≢0 : x ≢ pos 0
      x≢0 x_is = solution.not_all_zero (x_is, y_is x_is, w-is)

  -- so z ≠ 0 in the point that it gives
  pub z_not_zero : (m : Triple) → Levellable h → pos m.w ≢ pos 0 → (from_primed h (primed level m)).z ≢ pos 0
  unfolding from_primed primed
  z_not_zero m ok w≢0 =
      product_not_zero
      (product_not_zero (product_not_zero (positive_not_zero (omega arith)) ok.a_not_zero) ok.D-not-zero)
      (product_not_zero (positive_not_zero v.s_positive) w≢0)
