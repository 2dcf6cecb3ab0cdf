-- The Y at one W and X. Where pX² + gY² + qW² = 0, the sizes of pX² + qW² and of gY² are equal and their signs are not, so that Y² is the
-- quotient of the sizes; and Y² determines Y. So a test that fails leaves no Y, and where all pass the quotient's root is Y.
-- Assumes nothing.
use mathlib.Core.Path.{◌≡◌, sym, ap, ap₂, ◌∙◌}
use mathlib.Core.Logic.{◌≢◌}
use mathlib.Core.Bool.{true, false, false≢true, true≢false}
use Prim.Native.Nat.{ℕ, zero, suc, ◌+◌, ◌*◌, ◌/◌, ◌%◌, ◌≤◌, ◌<◌}
use native.Mathlib.Nat.{mul-div_cancel_left, mod-eq-zero_of_dvd, dvd_of_mod-eq-zero, dvd-mul_right}
use native.Mathlib.Omega.{arith}
use borrow.Author.Tests.{lt-ltb, le-ltb, ltb-true}
use lib.IntN.{ℤ, pos, negsuc, neg_ℤ, nat_abs, pos-ne-negsuc, ◌+ℤ◌, ◌*ℤ◌}
use Rattle.whole.proofs.Size.{nat_abs_positive}
use Rattle.number.specs.Square.{root_of, is_square}
use Rattle.number.proofs.Least.{not_true_of_false}
use Rattle.number.proofs.Divides.{times_quotient}
use Rattle.number.proofs.Square.{root_squared, square_law, root_of_square}
use Rattle.legendre.specs.Equation.{BoxSolution}
use Rattle.legendre.specs.Search.{same_sign}
use Rattle.legendre.proofs.Choice.{equation_iff, size_of_terms}

-- ---- signs

minus_not_positive : (k a : ℕ) → neg_ℤ (pos k) ≡ pos (suc a) → ⊥
minus_not_positive zero a e = let z : 0 ≡ suc a = ap nat_abs e in omega arith
minus_not_positive (suc k) a e = pos-ne-negsuc (suc a) k (sym e)

-- gn = −v, and v and g are of one sign
same_sign_clash : (v g : ℤ) (n : ℕ) → same_sign v g ≡ true → g *ℤ pos n ≡ neg_ℤ v → ⊥
unfolding same_sign
same_sign_clash (pos zero) (pos b) n e h = false≢true e
same_sign_clash (pos zero) (negsuc b) n e h = false≢true e
same_sign_clash (pos (suc a)) (pos b) n e h = pos-ne-negsuc (b * n) a h
same_sign_clash (pos (suc a)) (negsuc b) n e h = false≢true (rw (lt-ltb 0 (suc a) (omega arith), le-ltb (suc a) 0 (omega arith)) at e)
same_sign_clash (negsuc a) (pos b) n e h = let z : b < 0 = ltb-true b 0 e in omega arith
same_sign_clash (negsuc a) (negsuc b) n e h = minus_not_positive (suc b * n) a h

-- |v| = |g|n, and v and g are not of one sign
opposite_of_sizes : (v g : ℤ) (n : ℕ) → same_sign v g ≡ false → nat_abs v ≡ nat_abs g * n → g *ℤ pos n ≡ neg_ℤ v
unfolding same_sign
opposite_of_sizes (pos zero) (pos b) n e h = ap pos (sym h)
opposite_of_sizes (pos (suc a)) (pos zero) n e h = absurd (omega arith)
opposite_of_sizes (pos (suc a)) (pos (suc b)) n e h = absurd (true≢false (rw (lt-ltb 0 (suc a) (omega arith), lt-ltb 0 (suc b) (omega arith)) at e))
opposite_of_sizes (pos a) (negsuc b) n e h = ap (λ (k : ℕ). neg_ℤ (pos k)) (sym h)
opposite_of_sizes (negsuc a) (pos b) n e h = ap pos (sym h)
opposite_of_sizes (negsuc a) (negsuc b) n e h = absurd (true≢false e)

-- ---- the tests

-- pX² + qW²
abbrev pub terms : ℤ → ℤ → ℕ → ℕ → ℤ
terms p q w x = p *ℤ pos (x * x) +ℤ q *ℤ pos (w * w)

pub none_same_sign : (p g q : ℤ) (w x : ℕ) → same_sign (terms p q w x) g ≡ true → (y : ℕ) → ¬ BoxSolution p g q x y w
none_same_sign p g q w x e y b = same_sign_clash (terms p q w x) g (y * y) e ((equation_iff p g q (pos x) (pos y) (pos w)).0 b.solution.equation)

-- the sizes that are divided
pub record Division (p g q : ℤ) (w x size divisor : ℕ) : Type 0 where
  pub not_zero : g ≢ pos 0
  pub size_is : size ≡ nat_abs (terms p q w x)
  pub divisor_is : divisor ≡ nat_abs g

module _ {p g q : ℤ} {w x size divisor : ℕ} (d : Division p g q w x size divisor) where
  pub divisor_positive : 0 < divisor
  divisor_positive = rw d.divisor_is (nat_abs_positive d.not_zero)

  product : {y : ℕ} → BoxSolution p g q x y w → size ≡ divisor * (y * y)
  product {y} b =
      d.size_is ∙ size_of_terms y b.solution ∙ ap (λ (n : ℕ). n * (y * y)) (sym d.divisor_is)

  square_is : {y : ℕ} → BoxSolution p g q x y w → size / divisor ≡ y * y
  square_is {y} b = ap (λ (n : ℕ). n / divisor) (product b) ∙ mul-div_cancel_left (y * y) divisor_positive

  pub none_undivided : (size % divisor ≡ 0 → ⊥) → (y : ℕ) → ¬ BoxSolution p g q x y w
  none_undivided other y b = other (mod-eq-zero_of_dvd divisor (rw (product b) (dvd-mul_right divisor (y * y))))

  pub none_too_large : {limit : ℕ} → limit ≡ nat_abs (p *ℤ q) → limit < size / divisor → (y : ℕ) → ¬ BoxSolution p g q x y w
  none_too_large limit_is larger y b = omega (arith, square_is b, b.y_within)

  pub none_all_zero : x + size / divisor + w ≡ 0 → (y : ℕ) → ¬ BoxSolution p g q x y w
  none_all_zero zeros y b = b.solution.not_all_zero (ap pos (omega arith), ap pos y_zero, ap pos (omega arith))
    where
      y_zero : y ≡ 0
      y_zero = sym (root_of_square y) ∙ ap root_of (sym (square_is b) ∙ omega arith) ∙ root_of_square 0

  pub none_no_square : is_square (size / divisor) ≡ false → (y : ℕ) → ¬ BoxSolution p g q x y w
  none_no_square e y b = not_true_of_false e ((square_law (size / divisor)).1 (y, square_is b))

  pub found : {limit y : ℕ} → x * x ≤ nat_abs (g *ℤ q) → w * w ≤ nat_abs (p *ℤ g) → same_sign (terms p q w x) g ≡ false → size % divisor ≡ 0
      → limit ≡ nat_abs (p *ℤ q) → size / divisor ≤ limit → (x + size / divisor + w ≡ 0 → ⊥) → is_square (size / divisor) ≡ true → y ≡ root_of (size / divisor)
      → BoxSolution p g q x y w
  found {limit} {y} x_within w_within signs divided limit_is within not_zeros is-square y_is = record {
    solution = record {
      equation = (equation_iff p g q (pos x) (pos y) (pos w)).1 (opposite_of_sizes (terms p q w x) g (y * y) signs (sym d.size_is ∙ size_product));
      not_all_zero = λ h. not_zeros (all_zero (ap nat_abs h.0) (ap nat_abs h.1) (ap nat_abs h.2));
    };
    x_within = x_within;
    y_within = omega (arith, square, within);
    w_within = w_within;
  }
    where
      square : y * y ≡ size / divisor
      square = root_squared (size / divisor) is-square y_is

      size_product : size ≡ nat_abs g * (y * y)
      size_product = times_quotient divisor (dvd_of_mod-eq-zero divisor divided) ∙ ap₂ ◌*◌ d.divisor_is (sym square)

      all_zero : x ≡ 0 → y ≡ 0 → w ≡ 0 → x + size / divisor + w ≡ 0
      all_zero no-x no-y no-w = omega (arith, sym square ∙ ap (λ (r : ℕ). r * r) no-y)
