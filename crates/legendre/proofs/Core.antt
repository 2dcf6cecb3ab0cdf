-- Sufficiency where p, g > 0 > q: with roots of bc modulo a, of ca modulo b and of −ab modulo c, ax² + by² = cz² has a solution.
-- Of the triples with x² < bc, y² < ca, z² < ab two agree in three remainders; their difference makes ax² + by² − cz² a multiple of
-- abc, and it is more than −abc and less than 2abc. Where it is abc, another triple solves the equation. Assumes nothing.
use mathlib.Core.Path.{◌≡◌, refl, sym, ap, ap₂, subst, ◌∙◌}
use mathlib.Core.Logic.{◌⊎◌, inl, inr}
use mathlib.Core.List.{[], ◌∷◌}
use Prim.Native.Nat.{ℕ, zero, suc, ◌+◌, ◌*◌, ◌-◌, ◌%◌, ◌≤◌, ◌<◌}
use native.Mathlib.Nat.{mul-lt-mul_of_pos_left, mul_assoc, mul_comm, mod-lt, suc-mul, one-le-mul}
use native.Mathlib.Decide.{ℕ_discrete, dec_le}
use native.Mathlib.Omega.{arith}
use lib.IntN.{ℤ, pos, negsuc, neg_ℤ, nat_abs, ◌+ℤ◌, ◌-ℤ◌, ◌*ℤ◌}
use Rattle.whole.proofs.Laws.{equal_of_difference}
use Rattle.whole.proofs.Size.{nat_abs_neg, square_is}
use Rattle.whole.proofs.Ring.{by_ring, reify}
use Rattle.whole.proofs.Combination.{combine, ◌⊞◌, ◌⊠◌}
use Rattle.number.specs.Divides.{◌∣ℤ◌}
use Rattle.number.specs.Square.{root_of}
use Rattle.number.proofs.Square.{root_is, square-≤}
use Rattle.number.proofs.Congruence.{congruent_of_same}
use Rattle.legendre.specs.Equation.{form, Solvable}
use Rattle.legendre.proofs.Box.{three_digits, three_digits_below, SameDigits, same_digits, TwoTriples, two_triples, more_triples}
use Rattle.legendre.proofs.Congruences.{difference, Roots, Congruences, product_divides}

-- ---- the sides of the box

-- the least s with n ≤ s²
record Side (n : ℕ) : Type 0 where
  side : ℕ
  positive : 0 < side
  reaches : n ≤ side * side
  below : (x : ℕ) → x < side → x * x < n

side_of : (n : ℕ) → 1 ≤ n → Side n
side_of zero h = absurd (impossible h)
  where
    impossible : 1 ≤ 0 → ⊥
    impossible h = omega arith
side_of (suc n) h = record {
  side = suc (root_of n);
  positive = omega arith;
  reaches = (root_is n).next_square_above;
  below = λ x less. under x (square-≤ {r = x} {s = root_of n} (omega arith));
}
  where
    under : (x : ℕ) → x * x ≤ root_of n * root_of n → x * x < suc n
    under x at_most = omega (arith, (root_is n).square_at_most)

-- ---- sizes

more_less : (x d : ℤ) → (x +ℤ d) -ℤ x ≡ d
more_less x d = by_ring (x ∷ d ∷ []) (search reify depth 64 fits 9999) tt

less_more : (x d : ℤ) → x -ℤ (x +ℤ d) ≡ neg_ℤ d
less_more x d = by_ring (x ∷ d ∷ []) (search reify depth 64 fits 9999) tt

-- two numbers below s differ by less than s
difference_below : (x x' s : ℕ) → x < s → x' < s → nat_abs (pos x -ℤ pos x') < s
difference_below x x' s h h' = by (dec_le x x')
  where
    up : (x d : ℕ) → nat_abs (pos x -ℤ pos (x + d)) ≡ d
    up x d = ap nat_abs (less_more (pos x) (pos d)) ∙ nat_abs_neg (pos d)

    down : (x d : ℕ) → nat_abs (pos (x + d) -ℤ pos x) ≡ d
    down x d = ap nat_abs (more_less (pos x) (pos d))

    by : Dec (x ≤ x') → nat_abs (pos x -ℤ pos x') < s
    by (yes le) = subst (λ (n : ℕ). nat_abs (pos x -ℤ pos n) < s) (let e : x + (x' - x) ≡ x' = omega arith in e) (omega (arith, up x (x' - x)))
    by (no above) = subst (λ (n : ℕ). nat_abs (pos n -ℤ pos x') < s) (let e : x' + (x - x') ≡ x = omega arith in e) (omega (arith, down x' (x - x')))

-- a multiple of n between −n and 2n
zero_or_one : (n A B C : ℕ) (k : ℤ) → A < n → B < n → C < n → pos A +ℤ pos B -ℤ pos C ≡ k *ℤ pos n → (k ≡ pos 0) ⊎ (k ≡ pos 1)
zero_or_one n A B C (pos zero) h_a h_b h_c e = inl refl
zero_or_one n A B C (pos (suc zero)) h_a h_b h_c e = inr refl
zero_or_one n A B C (pos (suc (suc m))) h_a h_b h_c e = absurd (impossible (ap nat_abs (across (pos A) (pos B) (pos C) (pos (suc (suc m) * n)) e)))
  where
    across : (a b c m : ℤ) → a +ℤ b -ℤ c ≡ m → a +ℤ b ≡ m +ℤ c
    across a b c m h = combine h (by_ring (a ∷ b ∷ c ∷ m ∷ []) (search reify depth 64 fits 9999) tt)

    impossible : A + B ≡ suc (suc m) * n + C → ⊥
    impossible h = omega (arith, suc-mul (suc m) n, suc-mul m n)
zero_or_one n A B C (negsuc m) h_a h_b h_c e = absurd (impossible (ap nat_abs (across (pos A) (pos B) (pos C) (pos (suc m * n)) e)))
  where
    across : (a b c m : ℤ) → a +ℤ b -ℤ c ≡ neg_ℤ m → a +ℤ b +ℤ m ≡ c
    across a b c m h = combine h (by_ring (a ∷ b ∷ c ∷ m ∷ []) (search reify depth 64 fits 9999) tt)

    impossible : A + B + suc m * n ≡ C → ⊥
    impossible h = omega (arith, suc-mul m n)

-- ---- the two solutions

solves_at_zero : (a b c x y z k : ℤ) → difference a b c x y z ≡ k *ℤ (a *ℤ b *ℤ c) → k ≡ pos 0 → form a b (neg_ℤ c) x y z ≡ pos 0
solves_at_zero a b c x y z k h e = combine (h ⊞ (a *ℤ b *ℤ c) ⊠ e) (by_ring (a ∷ b ∷ c ∷ x ∷ y ∷ z ∷ k ∷ []) (search reify depth 64 fits 9999) tt)

solves_at_one : (a b c x y z k : ℤ) → difference a b c x y z ≡ k *ℤ (a *ℤ b *ℤ c) → k ≡ pos 1 →
    form a b (neg_ℤ c) (x *ℤ z +ℤ b *ℤ y) (y *ℤ z -ℤ a *ℤ x) (z *ℤ z +ℤ a *ℤ b) ≡ pos 0
solves_at_one a b c x y z k h e =
    combine ((z *ℤ z +ℤ a *ℤ b) ⊠ h ⊞ ((z *ℤ z +ℤ a *ℤ b) *ℤ (a *ℤ b *ℤ c)) ⊠ e)
    (by_ring (a ∷ b ∷ c ∷ x ∷ y ∷ z ∷ k ∷ []) (search reify depth 64 fits 9999) tt)

-- where ca = m²
solves_at_square : (a b c m : ℤ) → c *ℤ a ≡ m *ℤ m → form a b (neg_ℤ c) c (pos 0) m ≡ pos 0
solves_at_square a b c m h = combine (c ⊠ h) (by_ring (a ∷ b ∷ c ∷ m ∷ []) (search reify depth 64 fits 9999) tt)

-- a small triple, not all 0, at which the difference is a multiple of abc
module _ (a b c : ℕ) (h_a : 1 ≤ a) (h_b : 1 ≤ b) (h_c : 1 ≤ c) (x y z : ℤ)
    (x_small : nat_abs x * nat_abs x < b * c) (y_small : nat_abs y * nat_abs y < c * a) (z_small : nat_abs z * nat_abs z < a * b) where
  zero_or_product : (k : ℤ) → difference (pos a) (pos b) (pos c) x y z ≡ k *ℤ pos (a * b * c) → (k ≡ pos 0) ⊎ (k ≡ pos 1)
  zero_or_product k h = zero_or_one (a * b * c) (a * (nat_abs x * nat_abs x)) (b * (nat_abs y * nat_abs y)) (c * (nat_abs z * nat_abs z)) k
      (rw (mul_assoc a b c) (mul-lt-mul_of_pos_left x_small h_a))
      (rw (mul_assoc a b c, mul_comm a (b * c), mul_assoc b c a) (mul-lt-mul_of_pos_left y_small h_b))
      (rw (mul_comm (a * b) c) (mul-lt-mul_of_pos_left z_small h_c))
      (sym (terms (square_is x) (square_is y) (square_is z)) ∙ h)
    where
      terms : {u v w : ℤ} → x *ℤ x ≡ u → y *ℤ y ≡ v → z *ℤ z ≡ w → difference (pos a) (pos b) (pos c) x y z ≡ pos a *ℤ u +ℤ pos b *ℤ v -ℤ pos c *ℤ w
      terms h-u h-v h_w = ap₂ ◌-ℤ◌ (ap₂ ◌+ℤ◌ (ap (λ (n : ℤ). pos a *ℤ n) h-u) (ap (λ (n : ℤ). pos b *ℤ n) h-v)) (ap (λ (n : ℤ). pos c *ℤ n) h_w)

  solved_by_small : (pos a *ℤ pos b *ℤ pos c) ∣ℤ difference (pos a) (pos b) (pos c) x y z →
      ¬ ((x ≡ pos 0) × (y ≡ pos 0) × (z ≡ pos 0)) → Solvable (pos a) (pos b) (neg_ℤ (pos c))
  solved_by_small multiple not_zero = by (zero_or_product multiple.quotient multiple.multiple)
    where
      positive : nat_abs z * nat_abs z + a * b ≡ 0 → ⊥
      positive h = omega (arith, one-le-mul h_a h_b)

      by : (multiple.quotient ≡ pos 0) ⊎ (multiple.quotient ≡ pos 1) → Solvable (pos a) (pos b) (neg_ℤ (pos c))
      by (inl e) = record {
        x = x;
        y = y;
        w = z;
        solution = record {
          equation = solves_at_zero (pos a) (pos b) (pos c) x y z multiple.quotient multiple.multiple e;
          not_all_zero = not_zero;
        };
      }
      by (inr e) = record {
        x = x *ℤ z +ℤ pos b *ℤ y;
        y = y *ℤ z -ℤ pos a *ℤ x;
        w = z *ℤ z +ℤ pos a *ℤ pos b;
        solution = record {
          equation = solves_at_one (pos a) (pos b) (pos c) x y z multiple.quotient multiple.multiple e;
          not_all_zero = λ zeros. positive (ap nat_abs (ap (λ (n : ℤ). n +ℤ pos (a * b)) (sym (square_is z)) ∙ zeros.2));
        };
      }

equal : (m n : ℕ) → pos m -ℤ pos n ≡ pos 0 → m ≡ n
equal m n h = ap nat_abs (equal_of_difference (pos m) (pos n) h)

-- ---- one remainder

difference_of_sums : (b r y z y' z' : ℤ) → (b *ℤ y +ℤ r *ℤ z) -ℤ (b *ℤ y' +ℤ r *ℤ z') ≡ b *ℤ (y -ℤ y') +ℤ r *ℤ (z -ℤ z')
difference_of_sums b r y z y' z' = by_ring (b ∷ r ∷ y ∷ z ∷ y' ∷ z' ∷ []) (search reify depth 64 fits 9999) tt

same_remainder : (m b r y z y' z' : ℕ) → (b * y + r * z) % m ≡ (b * y' + r * z') % m → pos m ∣ℤ (pos b *ℤ (pos y -ℤ pos y') +ℤ pos r *ℤ (pos z -ℤ pos z'))
same_remainder m b r y z y' z' h = subst (λ (n : ℤ). pos m ∣ℤ n) (difference_of_sums (pos b) (pos r) (pos y) (pos z) (pos y') (pos z'))
    (congruent_of_same m (b * y + r * z) (b * y' + r * z') h).difference

module _ (a b c r s t : ℕ) (h_a : 1 ≤ a) (h_b : 1 ≤ b) (h_c : 1 ≤ c) (roots : Roots (pos a) (pos b) (pos c) (pos r) (pos s) (pos t)) where
  -- the three remainders as one number
  place : ℕ → ℕ → ℕ → ℕ
  place x y z = three_digits b c ((b * y + r * z) % a) ((c * z + s * x) % b) ((a * x + t * y) % c)

  place_below : (x y z : ℕ) → place x y z < a * b * c
  unfolding place
  place_below x y z = three_digits_below (mod-lt (b * y + r * z) h_a) (mod-lt (c * z + s * x) h_b) (mod-lt (a * x + t * y) h_c)

  congruences : (x y z x' y' z' : ℕ) → place x y z ≡ place x' y' z' →
      Congruences (pos a) (pos b) (pos c) (pos r) (pos s) (pos t) (pos x -ℤ pos x') (pos y -ℤ pos y') (pos z -ℤ pos z')
  unfolding place
  congruences x y z x' y' z' h = record {
    modulo_a = same_remainder a b r y z y' z' same.first;
    modulo_b = same_remainder b c s z x z' x' same.second;
    modulo_c = same_remainder c a t x y x' y' same.third;
  }
    where
      same : SameDigits ((b * y + r * z) % a) ((c * z + s * x) % b) ((a * x + t * y) % c) ((b * y' + r * z') % a) ((c * z' + s * x') % b) ((a * x' + t * y') % c)
      same = same_digits (mod-lt (c * z + s * x) h_b) (mod-lt (c * z' + s * x') h_b) (mod-lt (a * x + t * y) h_c) (mod-lt (a * x' + t * y') h_c) h

  module _ (X : Side (b * c)) (Y : Side (c * a)) (Z : Side (a * b)) where
    -- the difference of two triples of the box in one place
    from_two : TwoTriples X.side Y.side Z.side place → Solvable (pos a) (pos b) (neg_ℤ (pos c))
    from_two two = solved_by_small a b c h_a h_b h_c (pos two.x -ℤ pos two.x') (pos two.y -ℤ pos two.y') (pos two.z -ℤ pos two.z')
        (X.below _ (difference_below two.x two.x' X.side two.in_box.x_below two.in_box'.x_below))
        (Y.below _ (difference_below two.y two.y' Y.side two.in_box.y_below two.in_box'.y_below))
        (Z.below _ (difference_below two.z two.z' Z.side two.in_box.z_below two.in_box'.z_below))
        (product_divides (pos a) (pos b) (pos c) (pos r) (pos s) (pos t) _ _ _ roots
        (congruences two.x two.y two.z two.x' two.y' two.z' two.same_place))
        (λ zeros. two.not_same record { first = equal two.x two.x' zeros.0; second = equal two.y two.y' zeros.1; third = equal two.z two.z' zeros.2 })

    by_box : c * a < Y.side * Y.side → Solvable (pos a) (pos b) (neg_ℤ (pos c))
    by_box more = from_two (two_triples X.side Y.side Z.side place Y.positive Z.positive (a * b * c) place_below
        (more_triples a b c X.side Y.side Z.side h_a h_b h_c X.reaches more Z.reaches))

    by_square : c * a ≡ Y.side * Y.side → Solvable (pos a) (pos b) (neg_ℤ (pos c))
    by_square square = record {
      x = pos c;
      y = pos 0;
      w = pos Y.side;
      solution = record {
        equation = solves_at_square (pos a) (pos b) (pos c) (pos Y.side) (ap pos square);
        not_all_zero = λ zeros. zero_c (ap nat_abs zeros.0);
      };
    }
      where
        zero_c : c ≡ 0 → ⊥
        zero_c e = omega arith

    by_sides : Solvable (pos a) (pos b) (neg_ℤ (pos c))
    by_sides = by (ℕ_discrete (c * a) (Y.side * Y.side))
      where
        by : Dec (c * a ≡ Y.side * Y.side) → Solvable (pos a) (pos b) (neg_ℤ (pos c))
        by (yes square) = by_square square
        by (no other) = by_box (omega (arith, Y.reaches))

  pub solvable_by_roots : Solvable (pos a) (pos b) (neg_ℤ (pos c))
  solvable_by_roots = by_sides (side_of (b * c) (one-le-mul h_b h_c)) (side_of (c * a) (one-le-mul h_c h_a)) (side_of (a * b) (one-le-mul h_a h_b))
