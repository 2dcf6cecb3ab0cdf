-- Where −D = r²: S lies on the conic at infinity, and one of the three trial lines has L(S, T) ≠ 0, since the derivatives of a
-- non-degenerate conic vanish together only at 0. So the point drawn from S has z = −L(S, T) ≠ 0. Assumes nothing.
use mathlib.Core.Path.{◌≡◌, refl, sym, ap, ◌∙◌, subst}
use mathlib.Core.Bool.{true, true≢false}
use mathlib.Core.Logic.{◌≢◌, ◌↔◌}
use mathlib.Core.List.{[], ◌∷◌}
use Prim.Native.Nat.{ℕ, ◌+◌, ◌*◌, ◌≤◌, zero-le}
use native.Mathlib.Nat.{le_refl, le_of_eq}
use lib.Dec.{lit<}
use lib.IntN.{ℤ, pos, negsuc, neg_ℤ, nat_abs, ◌-ℤ◌, ◌*ℤ◌}
use Rattle.whole.proofs.Cancel.{product_not_zero}
use Rattle.whole.proofs.Combination.{combine, ◌⊞◌, ◌⊠◌}
use Rattle.whole.proofs.Ring.{by_ring, reify}
use Rattle.whole.proofs.Signed.{sizes, bounds}
use Rattle.whole.proofs.Size.{nat_abs_neg, nat_abs-*, square_is}
use Rattle.number.specs.Square.{root_of}
use Rattle.number.proofs.Square.{root_is, root_of_square, square_law}
use Rattle.point.specs.Paper.{coefficient_limit, point_limit, is_zero}
use Rattle.point.specs.Sizes.{PointWithin}
use Rattle.point.specs.declared.Point.{Point}
use Rattle.point.proofs.Tests.{is_zero_iff, not_zero_of_false}
use Rattle.point.proofs.Vector.{Zero, unit_x, one_not_zero}
use Rattle.point.proofs.Cases.{cond_cases}
use Rattle.conic.specs.Form.{G, Gx, Gy, Gz, L, D, Δ, drawn}
use Rattle.conic.specs.Sizes.{InLimit}
use Rattle.conic.specs.declared.conic.Conic.{Conic}
use Rattle.conic.proofs.Gram.{zero_if_singular}
use Rattle.conic.proofs.Sizes.{limit_D, D-size}
use Rattle.solve.specs.Demand2.{SquareDiscriminant, StartsAt, where_a_is_zero, where_a_is_not, LeadsFirst, the_first, the_second, the_third}
use Rattle.solve.specs.Sizes.{limit_W'}
use Rattle.solve.specs.Solve.{is_square_number, first_line, second_line, third_line, trial_line, start_at_infinity}
use Rattle.solve.proofs.Levelling.{positive_not_zero}
use Rattle.solve.proofs.Sizes.{root_within}

-- ---- the tests

pub is_square_iff : (n : ℤ) → (is_square_number n ≡ true) ↔ ((r : ℤ) × (n ≡ r *ℤ r))
unfolding is_square_number
is_square_iff n = (rooted n, λ (r, e). ap is_square_number (e ∙ square_is r) ∙ (square_law (nat_abs r * nat_abs r)).1 (nat_abs r, refl))
  where
    rooted : (n : ℤ) → is_square_number n ≡ true → (r : ℤ) × (n ≡ r *ℤ r)
    rooted (pos m) e = let (r, f) = (square_law m).0 e in (pos r, ap pos f)
    rooted (negsuc m) e = absurd (true≢false (sym e))

-- ---- the start

-- the root of |D| is r
pub root_squared : (h : Conic) → SquareDiscriminant h → neg_ℤ (D h) ≡ pos (root_of (nat_abs (D h))) *ℤ pos (root_of (nat_abs (D h)))
root_squared h (r, e) = e ∙ square_is r ∙ ap (λ (n : ℕ). pos (n * n)) (sym (root_of_square (nat_abs r)) ∙ ap root_of (sym size))
  where
    size : nat_abs (D h) ≡ nat_abs r * nat_abs r
    size = sym (nat_abs_neg (D h)) ∙ ap nat_abs e ∙ nat_abs-* r r

pub record AtInfinity (h : Conic) (s : Point) : Type 0 where
  pub on : G h s ≡ pos 0
  pub not_zero : ¬ Zero s
  pub z_zero : s.z ≡ pos 0

on_axis : (h : Conic) → h.a ≡ pos 0 → G h unit_x ≡ pos 0
unfolding G
on_axis h e = combine (pos 1 ⊠ e) (by_ring (h.a ∷ h.b ∷ h.c ∷ h.d ∷ h.e ∷ h.f ∷ []) (search reify depth 64 fits 9999) tt)

-- G(r − b, 2a, 0) = a·(r² + D)
on_asymptote : (h : Conic) (r : ℤ) → neg_ℤ (D h) ≡ r *ℤ r → G h (record { x = r -ℤ h.b; y = pos 2 *ℤ h.a; z = pos 0 }) ≡ pos 0
unfolding G D
on_asymptote h r e =
    combine (neg_ℤ h.a ⊠ e) (by_ring (h.a ∷ h.b ∷ h.c ∷ h.d ∷ h.e ∷ h.f ∷ r ∷ []) (search reify depth 64 fits 9999) tt)

pub start : (h : Conic) → SquareDiscriminant h → AtInfinity h (start_at_infinity h)
unfolding start_at_infinity
start h square =
    cond_cases (AtInfinity h) (is_zero h.a)
    (λ t. record { on = on_axis h (is_zero_iff.0 t); not_zero = λ zeros. one_not_zero zeros.0; z_zero = refl })
    (λ f. record {
      on = on_asymptote h (pos (root_of (nat_abs (D h)))) (root_squared h square);
      not_zero = λ zeros. product_not_zero {a = pos 2} (positive_not_zero (lit< tt)) (not_zero_of_false f) zeros.1;
      z_zero = refl;
    })

-- the start by any r ≥ 0 with −D = r²
pub starts : (h : Conic) (r : ℕ) → neg_ℤ (D h) ≡ pos (r * r) → StartsAt h r (start_at_infinity h)
unfolding start_at_infinity
starts h r e =
    cond_cases (StartsAt h r) (is_zero h.a)
    (λ t. where_a_is_zero (is_zero_iff.0 t))
    (λ f. subst (λ (n : ℕ). StartsAt h r (record { x = pos n -ℤ h.b; y = pos 2 *ℤ h.a; z = pos 0 })) (sym root_is_r)
    (where_a_is_not (not_zero_of_false f)))
  where
    size : nat_abs (D h) ≡ r * r
    size = sym (nat_abs_neg (D h)) ∙ ap nat_abs e

    root_is_r : root_of (nat_abs (D h)) ≡ r
    root_is_r = ap root_of size ∙ root_of_square r

-- ---- the trial line

pub record Trial (h : Conic) (s t : Point) : Type 0 where
  pub meets : L h s t ≢ pos 0
  pub leads : LeadsFirst h s t
  pub x_small : nat_abs t.x ≤ 1
  pub y_small : nat_abs t.y ≤ 1
  pub z_one : t.z ≡ pos 1

-- the derivatives from the values of L at the three lines
derivatives : (h : Conic) (s : Point) → L h s first_line ≡ pos 0 → L h s second_line ≡ pos 0 → L h s third_line ≡ pos 0 →
    (Gx h s ≡ pos 0) × (Gy h s ≡ pos 0) × (Gz h s ≡ pos 0)
unfolding L
derivatives h s e f g = (
  combine (pos 1 ⊠ f ⊞ negsuc 0 ⊠ e) (by_ring (Gx h s ∷ Gy h s ∷ Gz h s ∷ []) (search reify depth 64 fits 9999) tt),
  combine (pos 1 ⊠ g ⊞ negsuc 0 ⊠ e) (by_ring (Gx h s ∷ Gy h s ∷ Gz h s ∷ []) (search reify depth 64 fits 9999) tt),
  combine (pos 1 ⊠ e) (by_ring (Gx h s ∷ Gy h s ∷ Gz h s ∷ []) (search reify depth 64 fits 9999) tt),
)

pub trial : (h : Conic) (s : Point) → Δ h ≢ pos 0 → ¬ Zero s → Trial h s (trial_line h s)
unfolding trial_line
trial h s Δ≢0 s≢0 =
    cond_cases (Trial h s) (is_zero (L h s first_line))
    (λ e. cond_cases (Trial h s) (is_zero (L h s second_line))
    (λ f. record { meets = last e f; leads = the_third (is_zero_iff.0 e) (is_zero_iff.0 f) (last e f); x_small = zero-le; y_small = le_refl 1; z_one = refl })
    (λ f. record { meets = not_zero_of_false f; leads = the_second (is_zero_iff.0 e) (not_zero_of_false f); x_small = le_refl 1; y_small = zero-le; z_one = refl }))
    (λ e. record { meets = not_zero_of_false e; leads = the_first (not_zero_of_false e); x_small = zero-le; y_small = zero-le; z_one = refl })
  where
    last : is_zero (L h s first_line) ≡ true → is_zero (L h s second_line) ≡ true → L h s third_line ≢ pos 0
    last e f g =
        let (x, y, z) = derivatives h s (is_zero_iff.0 e) (is_zero_iff.0 f) g in
        s≢0 (zero_if_singular h s Δ≢0 x y z)

-- ---- the point

pub drawn_z : (h : Conic) {s t : Point} → AtInfinity h s → Trial h s t → (drawn h s t).z ≢ pos 0
unfolding drawn
drawn_z h {s} {t} far line e = line.meets (last_term (G h t) (L h s t) s.z t.z far.z_zero line.z_one e)
  where
    last_term : (g l m n : ℤ) → m ≡ pos 0 → n ≡ pos 1 → g *ℤ m -ℤ l *ℤ n ≡ pos 0 → l ≡ pos 0
    last_term g l m n m_is n_is e =
        combine (g ⊠ m_is ⊞ neg_ℤ l ⊠ n_is ⊞ negsuc 0 ⊠ e) (by_ring (g ∷ l ∷ m ∷ n ∷ []) (search reify depth 64 fits 9999) tt)

-- ---- its size, before the division

pub record StartWithin (s : Point) : Type 0 where
  pub x_within : nat_abs s.x ≤ limit_W' + coefficient_limit
  pub y_within : nat_abs s.y ≤ 2 * coefficient_limit
  pub z_within : nat_abs s.z ≤ 0

pub root_small : (h : Conic) → InLimit h → root_of (nat_abs (D h)) ≤ limit_W'
root_small h l =
    root_within (nat_abs (D h)) limit_D (root_of (nat_abs (D h))) limit_W' (root_is (nat_abs (D h))).square_at_most (D-size h l) tt

pub start_within : (h : Conic) → InLimit h → StartWithin (start_at_infinity h)
unfolding start_at_infinity
start_within h l =
    let small : root_of (nat_abs (D h)) ≤ limit_W' = root_small h l in
    cond_cases StartWithin (is_zero h.a)
    (λ t. record {
      x_within = bounds (search sizes depth 40 fits 9999) tt;
      y_within = bounds (search sizes depth 40 fits 9999) tt;
      z_within = bounds (search sizes depth 40 fits 9999) tt;
    })
    (λ f. record {
      x_within = bounds (search sizes depth 40 fits 9999) tt;
      y_within = bounds (search sizes depth 40 fits 9999) tt;
      z_within = bounds (search sizes depth 40 fits 9999) tt;
    })

pub drawn_within : (h : Conic) {s t : Point} → InLimit h → StartWithin s → Trial h s t → PointWithin point_limit (drawn h s t)
unfolding drawn G L Gx Gy Gz
drawn_within h {s} {t} l small line =
    let z_small : nat_abs t.z ≤ 1 = le_of_eq (ap nat_abs line.z_one) in
    record {
      x_within = bounds (search sizes depth 60 fits 9999) tt;
      y_within = bounds (search sizes depth 60 fits 9999) tt;
      z_within = bounds (search sizes depth 60 fits 9999) tt;
    }
