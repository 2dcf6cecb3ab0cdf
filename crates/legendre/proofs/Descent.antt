-- The descent for aX² + bY² = cW², c squarefree: a solution with W > 0 can be taken with W² ≤ ab. Divide out the greatest
-- common divisor of X and Y (its square divides cW², so it divides W), step down while W² > ab. Assumes nothing.
use mathlib.Core.Path.{◌≡◌, sym, ap, subst, ◌∙◌}
use mathlib.Core.List.{[], ◌∷◌}
use mathlib.Core.Logic.{◌≢◌}
use Prim.Native.Nat.{ℕ, zero, suc, ◌*◌, ◌/◌, ◌≤◌, ◌<◌, ◌∣◌}
use native.Mathlib.Nat.{pos_of_dvd_of_pos, div-le_self, le_refl, lt_of_not-le, ne_of_gt}
use native.Mathlib.Decide.{dec_le}
use native.Mathlib.Omega.{arith}
use lib.IntN.{ℤ, pos, neg_ℤ, nat_abs, ◌+ℤ◌, ◌*ℤ◌}
use Rattle.whole.proofs.Size.{nat_abs_neg}
use Rattle.whole.proofs.Ring.{by_ring, reify}
use Rattle.whole.proofs.Combination.{combine, ◌⊞◌, ◌⊠◌}
use Rattle.whole.proofs.Products.{*ℤ_cancel}
use Rattle.whole.proofs.Cancel.{other_factor_zero}
use Rattle.number.specs.Divides.{◌∣ℤ◌}
use Rattle.number.specs.Gcd.{gcd_of}
use Rattle.number.specs.Squarefree.{Squarefree}
use Rattle.number.proofs.Divides.{sizes_divide, quotient_times}
use Rattle.number.proofs.Gcd.{gcd-∣ℤ_left, gcd-∣ℤ_right}
use Rattle.number.proofs.Bezout.{Combines, bezout_ℤ}
use Rattle.number.proofs.Squarefree.{squarefree_same_size}
use Rattle.legendre.specs.Equation.{form}
use Rattle.legendre.proofs.Patterns.{form_turned}
use Rattle.legendre.proofs.CommonFactor.{third_divided}
use Rattle.legendre.proofs.DescentStep.{Point, PrimitivePoint, Smaller, step}

-- ---- without common factor

module _ (p g c k w : ℤ) (s : Point p g (neg_ℤ c) w) (x_multiple : k ∣ℤ s.x) (y_multiple : k ∣ℤ s.y) where
  abbrev x₁ : ℤ
  x₁ = x_multiple.quotient

  abbrev y₁ : ℤ
  y₁ = y_multiple.quotient

  divided : (w₁ : ℤ) → k ≢ pos 0 → w ≡ w₁ *ℤ k → Combines s.x s.y k → PrimitivePoint p g (neg_ℤ c) w₁
  divided w₁ k≢0 w_multiple m =
      record {
        point = record {
          x = x₁;
          y = y₁;
          equation =
              other_factor_zero k≢0 (other_factor_zero k≢0
              (combine
              (pos 1 ⊠ s.equation ⊞ neg_ℤ (p *ℤ (s.x +ℤ x₁ *ℤ k)) ⊠ x_multiple.multiple
              ⊞ neg_ℤ (g *ℤ (s.y +ℤ y₁ *ℤ k)) ⊠ y_multiple.multiple ⊞ c *ℤ (w +ℤ w₁ *ℤ k) ⊠ w_multiple)
              (by_ring (p ∷ g ∷ c ∷ k ∷ w ∷ s.x ∷ s.y ∷ x₁ ∷ y₁ ∷ w₁ ∷ []) (search reify depth 64 fits 9999) tt)));
        };
        bezout = record {
          left = m.left;
          right = m.right;
          combination =
              *ℤ_cancel k k≢0
              (combine (pos 1 ⊠ m.combination ⊞ neg_ℤ m.left ⊠ x_multiple.multiple ⊞ neg_ℤ m.right ⊠ y_multiple.multiple)
              (by_ring (k ∷ s.x ∷ s.y ∷ x₁ ∷ y₁ ∷ m.left ∷ m.right ∷ []) (search reify depth 64 fits 9999) tt));
        };
      }

factor_positive : (m n : ℕ) → 0 < m * n → 0 < m
factor_positive zero n h = omega arith
factor_positive (suc m) n h = omega arith

record Reduced (p g q : ℤ) (w : ℕ) : Type 0 where
  size : ℕ
  positive : 0 < size
  at_most : size ≤ w
  point : PrimitivePoint p g q (pos size)

reduced : (p g : ℤ) (c w : ℕ) → Squarefree (pos c) → 0 < w → Point p g (neg_ℤ (pos c)) (pos w) → Reduced p g (neg_ℤ (pos c)) w
reduced p g c w free w>0 s =
    record {
      size = w / k;
      positive = factor_positive (w / k) k (subst (λ (n : ℕ). 0 < n) w_multiple w>0);
      at_most = div-le_self w k;
      point = divided p g (pos c) (pos k) (pos w) s x_multiple y_multiple (pos (w / k)) not_zero (ap pos w_multiple) (bezout_ℤ s.x s.y);
    }
  where
    k : ℕ
    k = gcd_of (nat_abs s.x) (nat_abs s.y)

    x_multiple : pos k ∣ℤ s.x
    x_multiple = gcd-∣ℤ_left s.x s.y

    y_multiple : pos k ∣ℤ s.y
    y_multiple = gcd-∣ℤ_right s.x s.y

    turned : form (neg_ℤ (pos c)) p g (pos w) s.x s.y ≡ pos 0
    turned = form_turned g (neg_ℤ (pos c)) p s.y (pos w) s.x ∙ form_turned p g (neg_ℤ (pos c)) s.x s.y (pos w) ∙ s.equation

    k_divides : k ∣ w
    k_divides =
        sizes_divide
        (third_divided (neg_ℤ (pos c)) p g (pos w) s.x s.y (pos k) (squarefree_same_size (sym (nat_abs_neg (pos c))) free) turned x_multiple y_multiple)

    w_multiple : w ≡ w / k * k
    w_multiple = quotient_times k k_divides

    not_zero : pos k ≢ pos 0
    not_zero e = ne_of_gt (pos_of_dvd_of_pos k_divides w>0) (ap nat_abs e)

-- ---- down to the bound

pub record Bounded (a b : ℕ) (q : ℤ) : Type 0 where
  pub size : ℕ
  pub positive : 0 < size
  pub at_most : size * size ≤ a * b
  pub point : Point (pos a) (pos b) q (pos size)

module _ (a b c : ℕ) (a>0 : 0 < a) (b>0 : 0 < b) (free : Squarefree (pos c)) where
  -- n bounds the number of steps
  down : (n w : ℕ) → w ≤ n → 0 < w → Point (pos a) (pos b) (neg_ℤ (pos c)) (pos w) → Bounded a b (neg_ℤ (pos c))
  down zero w w≤n w>0 s = absurd (none w≤n w>0)
    where
      none : w ≤ 0 → 0 < w → ⊥
      none h k = omega arith
  down (suc n) w w≤n w>0 s = by_size (dec_le (r.size * r.size) (a * b)) (down n)
    where
      r : Reduced (pos a) (pos b) (neg_ℤ (pos c)) w
      r = reduced (pos a) (pos b) c w free w>0 s

      Next : Type 0
      Next = (w : ℕ) → w ≤ n → 0 < w → Point (pos a) (pos b) (neg_ℤ (pos c)) (pos w) → Bounded a b (neg_ℤ (pos c))

      again : Smaller (pos a) (pos b) (neg_ℤ (pos c)) r.size → Next → Bounded a b (neg_ℤ (pos c))
      again t next = next t.size (omega (arith, t.below, r.at_most)) t.positive t.point

      by_size : Dec (r.size * r.size ≤ a * b) → Next → Bounded a b (neg_ℤ (pos c))
      by_size (yes small) next = record { size = r.size; positive = r.positive; at_most = small; point = r.point.point }
      by_size (no large) next = again (step a b (neg_ℤ (pos c)) r.size a>0 b>0 r.positive (lt_of_not-le large) r.point) next

  pub descent : (w : ℕ) → 0 < w → Point (pos a) (pos b) (neg_ℤ (pos c)) (pos w) → Bounded a b (neg_ℤ (pos c))
  descent w = down w w (le_refl w)
