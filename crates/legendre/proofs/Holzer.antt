-- Holzer's bound: where there is a solution, the box holds one. By the descent W² ≤ pg, and the equation then bounds X and Y;
-- the sizes of the three numbers solve the equation too. The other patterns of signs are turned into this one. Assumes nothing.
use mathlib.Core.Path.{◌≡◌, ap, ◌∙◌}
use mathlib.Core.List.{[], ◌∷◌}
use Prim.Native.Nat.{ℕ, ◌+◌, ◌*◌, ◌≤◌, ◌<◌}
use native.Mathlib.Nat.{add_comm, mul_comm, mul-zero, mul-le-mul_left, le_of_mul-le-mul_left, pos_of_ne-zero, ne_of_gt}
use native.Mathlib.Omega.{arith}
use lib.IntN.{ℤ, pos, neg_ℤ, nat_abs, ◌+ℤ◌, ◌*ℤ◌}
use Rattle.whole.proofs.Ring.{by_ring, reify}
use Rattle.whole.proofs.Combination.{combine, ◌⊠◌}
use Rattle.whole.proofs.Size.{nat_abs_neg, nat_abs-*, nat_abs_zero}
use Rattle.number.proofs.Squarefree.{squarefree_same_size}
use Rattle.legendre.specs.Equation.{Levelled, form, Solvable, SolvableInBox}
use Rattle.legendre.specs.Theorems.{NoneBySign, Holzer}
use Rattle.legendre.proofs.Sizes.{zero_square_term, form_of_sizes}
use Rattle.legendre.proofs.Patterns.{Kept, by_pattern, levelled_turned, levelled_negated, solvable_turned, negated_solvable, in_box_turned, in_box_negated}
use Rattle.legendre.proofs.Sign.{none_by_sign}
use Rattle.legendre.proofs.DescentStep.{Point}
use Rattle.legendre.proofs.Descent.{Bounded, descent}

moved : (a b c x y w : ℤ) → form a b (neg_ℤ c) x y w ≡ pos 0 → a *ℤ (x *ℤ x) +ℤ b *ℤ (y *ℤ y) ≡ c *ℤ (w *ℤ w)
moved a b c x y w e = combine (pos 1 ⊠ e) (by_ring (a ∷ b ∷ c ∷ x ∷ y ∷ w ∷ []) (search reify depth 64 fits 9999) tt)

-- ax + by = cw and w ≤ ab bound x by bc
term_within : (a b c x y w : ℕ) → 0 < a → a * x + b * y ≡ c * w → w ≤ a * b → x ≤ b * c
term_within a b c x y w a>0 e h = le_of_mul-le-mul_left (products (mul-le-mul_left c h)) a>0
  where
    products : c * w ≤ c * (a * b) → a * x ≤ a * (b * c)
    products h = omega arith

size_of_product : (a c : ℕ) → nat_abs (pos a *ℤ neg_ℤ (pos c)) ≡ a * c
size_of_product a c = nat_abs-* (pos a) (neg_ℤ (pos c)) ∙ ap (λ (n : ℕ). a * n) (nat_abs_neg (pos c))

module _ (a b c : ℕ) (a>0 : 1 ≤ a) (b>0 : 1 ≤ b) where
  balance : (x y w : ℤ) → form (pos a) (pos b) (neg_ℤ (pos c)) x y w ≡ pos 0
      → a * (nat_abs x * nat_abs x) + b * (nat_abs y * nat_abs y) ≡ c * (nat_abs w * nat_abs w)
  balance x y w e =
      ap nat_abs
      (moved (pos a) (pos b) (pos c) (pos (nat_abs x)) (pos (nat_abs y)) (pos (nat_abs w)) (form_of_sizes (pos a) (pos b) (neg_ℤ (pos c)) x y w ∙ e))

  boxed : Bounded a b (neg_ℤ (pos c)) → SolvableInBox (pos a) (pos b) (neg_ℤ (pos c))
  boxed h =
      record {
        x = nat_abs h.point.x;
        y = nat_abs h.point.y;
        w = h.size;
        solution = record {
          solution = record {
            equation = form_of_sizes (pos a) (pos b) (neg_ℤ (pos c)) h.point.x h.point.y (pos h.size) ∙ h.point.equation;
            not_all_zero = λ zeros. ne_of_gt h.positive (ap nat_abs zeros.2);
          };
          x_within = rw (size_of_product b c) (term_within a b c _ _ _ a>0 sizes h.at_most);
          y_within = rw (size_of_product a c) (term_within b a c _ _ _ b>0 (add_comm _ _ ∙ sizes) (rw (mul_comm b a) h.at_most));
          w_within = h.at_most;
        };
      }
    where
      sizes : a * (nat_abs h.point.x * nat_abs h.point.x) + b * (nat_abs h.point.y * nat_abs h.point.y) ≡ c * (h.size * h.size)
      sizes = balance h.point.x h.point.y (pos h.size) h.point.equation

  -- W is not 0: else X and Y would be
  last_positive : (s : Solvable (pos a) (pos b) (neg_ℤ (pos c))) → 0 < nat_abs s.w
  last_positive s = pos_of_ne-zero (λ e. s.solution.not_all_zero (all_zero e))
    where
      sizes : a * (nat_abs s.x * nat_abs s.x) + b * (nat_abs s.y * nat_abs s.y) ≡ c * (nat_abs s.w * nat_abs s.w)
      sizes = balance s.x s.y s.w s.solution.equation

      right_zero : nat_abs s.w ≡ 0 → c * (nat_abs s.w * nat_abs s.w) ≡ 0
      right_zero e = ap (λ (n : ℕ). c * (n * n)) e ∙ mul-zero c

      all_zero : nat_abs s.w ≡ 0 → (s.x ≡ pos 0) × (s.y ≡ pos 0) × (s.w ≡ pos 0)
      all_zero e = (
        zero_square_term a s.x a>0 (omega (arith, sizes, right_zero e)),
        zero_square_term b s.y b>0 (omega (arith, sizes, right_zero e)),
        nat_abs_zero s.w e,
      )

-- what turning and negating keep
abbrev Boxed : ℤ → ℤ → ℤ → Type 0
Boxed p g q = Levelled p g q → Solvable p g q → SolvableInBox p g q

boxed_kept : Kept Boxed
boxed_kept =
    record {
      turn = λ h l s. in_box_turned (in_box_turned (h (levelled_turned l) (solvable_turned s)));
      negate = λ h l s. in_box_negated (h (levelled_negated l) (negated_solvable s));
    }

here : (a b c : ℕ) → 1 ≤ a → 1 ≤ b → 1 ≤ c → Boxed (pos a) (pos b) (neg_ℤ (pos c))
here a b c a>0 b>0 c>0 l s =
    boxed a b c a>0 b>0
    (descent a b c a>0 b>0 (squarefree_same_size (nat_abs_neg (pos c)) l.squarefree_q) (nat_abs s.w) (last_positive a b c a>0 b>0 s) point)
  where
    point : Point (pos a) (pos b) (neg_ℤ (pos c)) (pos (nat_abs s.w))
    point =
        record {
          x = pos (nat_abs s.x);
          y = pos (nat_abs s.y);
          equation = form_of_sizes (pos a) (pos b) (neg_ℤ (pos c)) s.x s.y s.w ∙ s.solution.equation;
        }

pub holzer : Holzer
unfolding Holzer NoneBySign
holzer p g q l s = by_pattern Boxed boxed_kept here l (λ signs. none_by_sign p g q signs s) l s
