-- Necessity: of a solution of a levelled equation and a prime l ∣ p, −gq is a square modulo l. Divided by h = gcd(Y, W), which divides
-- X too as p is squarefree, Y and W have no common factor; so l does not divide W, and with Wv ≡ 1 (gYv)² ≡ −gq. The other two
-- coefficients go the same way, with the triple turned. Assumes nothing.
use mathlib.Core.Path.{◌≡◌, sym, ap, ap₂, subst₃, ◌∙◌}
use mathlib.Core.Logic.{⊎_elim}
use mathlib.Core.List.{[], ◌∷◌}
use Prim.Native.Nat.{ℕ, ◌*◌, ◌<◌}
use native.Mathlib.Nat.{eq-zero-or-pos, mul_comm, mul-pos}
use lib.IntN.{ℤ, pos, neg_ℤ, nat_abs, ◌+ℤ◌, ◌-ℤ◌, ◌*ℤ◌, *ℤ-zero}
use Rattle.whole.proofs.Size.{nat_abs-*}
use Rattle.whole.proofs.Ring.{by_ring, reify}
use Rattle.whole.proofs.Combination.{combine, ◌⊞◌, ◌⊠◌}
use Rattle.number.specs.Divides.{◌∣ℤ◌}
use Rattle.number.specs.Gcd.{Coprime, gcd_of}
use Rattle.number.specs.Prime.{Prime}
use Rattle.number.specs.Residue.{SquareModulo}
use Rattle.number.specs.Squarefree.{Squarefree}
use Rattle.number.proofs.Divides.{∣ℤ_of_sum, ∣ℤ_times_left, ∣ℤ_cancel, sizes_divide}
use Rattle.number.proofs.Gcd.{gcd-∣ℤ_left, gcd-∣ℤ_right, cofactors_coprime, coprime_common_divisor}
use Rattle.number.proofs.Bezout.{Combines, coprime_combines}
use Rattle.number.proofs.Prime.{prime_coprime, prime_not_one, prime_divides_product, prime_divides_square}
use Rattle.legendre.specs.Equation.{Levelled, form, Solvable, ConditionAt}
use Rattle.legendre.proofs.CommonFactor.{third_divided}
use Rattle.legendre.proofs.Patterns.{solvable_turned, square_commuted}

-- ---- Y and W without common factor

-- gy² + qw² = nl and ul + vw = 1 make gyv a root of −gq
root_of_product : (l g q y w u v n : ℤ) → g *ℤ (y *ℤ y) +ℤ q *ℤ (w *ℤ w) ≡ n *ℤ l → u *ℤ l +ℤ v *ℤ w ≡ pos 1 →
    g *ℤ y *ℤ v *ℤ (g *ℤ y *ℤ v) -ℤ neg_ℤ (g *ℤ q) ≡ (g *ℤ v *ℤ v *ℤ n +ℤ g *ℤ q *ℤ u *ℤ (pos 1 +ℤ v *ℤ w)) *ℤ l
root_of_product l g q y w u v n h one =
    combine ((g *ℤ v *ℤ v) ⊠ h ⊞ neg_ℤ (g *ℤ q *ℤ (pos 1 +ℤ v *ℤ w)) ⊠ one)
    (by_ring (l ∷ g ∷ q ∷ y ∷ w ∷ u ∷ v ∷ n ∷ []) (search reify depth 64 fits 9999) tt)

common_prime : {l : ℕ} {a b : ℤ} → Prime l → Coprime a b → pos l ∣ℤ a → ¬ (pos l ∣ℤ b)
common_prime {l} prime coprime l-a l-b = prime_not_one prime (coprime_common_divisor coprime l (sizes_divide l-a) (sizes_divide l-b))

module _ {l : ℕ} (prime : Prime l) (g q y w : ℤ) (not_g : ¬ (pos l ∣ℤ g)) (coprime : Coprime y w)
    (divided : pos l ∣ℤ (g *ℤ (y *ℤ y) +ℤ q *ℤ (w *ℤ w))) where
  not_w : ¬ (pos l ∣ℤ w)
  not_w l-w = ⊎_elim not_g (λ l-yy. common_prime prime coprime (prime_divides_square y prime l-yy) l-w)
      (prime_divides_product g (y *ℤ y) prime (∣ℤ_of_sum divided (∣ℤ_times_left q (∣ℤ_times_left w l-w))))

  square_from_coprime : SquareModulo l (neg_ℤ (g *ℤ q))
  square_from_coprime = by (coprime_combines (prime_coprime prime not_w))
    where
      by : Combines (pos l) w (pos 1) → SquareModulo l (neg_ℤ (g *ℤ q))
      by one = record {
        root = g *ℤ y *ℤ one.right;
        is_root = record {
          quotient = g *ℤ one.right *ℤ one.right *ℤ divided.quotient +ℤ g *ℤ q *ℤ one.left *ℤ (pos 1 +ℤ one.right *ℤ w);
          multiple = root_of_product (pos l) g q y w one.left one.right divided.quotient divided.multiple one.combination;
        };
      }

-- ---- the common factor h of X, Y and W divided out

-- h²l ∣ h²(gY² + qW²)
scaled_divides : (p g q x y w h k l : ℤ) → form p g q (x *ℤ h) (y *ℤ h) (w *ℤ h) ≡ pos 0 → p ≡ k *ℤ l → (h *ℤ h *ℤ l) ∣ℤ (h *ℤ h *ℤ (g *ℤ (y *ℤ y) +ℤ q *ℤ (w *ℤ w)))
scaled_divides p g q x y w h k l e d = record {
  quotient = neg_ℤ (k *ℤ (x *ℤ x));
  multiple = combine (e ⊞ neg_ℤ (x *ℤ x *ℤ h *ℤ h) ⊠ d)
      (by_ring (p ∷ g ∷ q ∷ x ∷ y ∷ w ∷ h ∷ k ∷ l ∷ []) (search reify depth 64 fits 9999) tt);
}

module _ {l : ℕ} (prime : Prime l) (p g q : ℤ) (free : Squarefree p) (coprime : Coprime p g) (l_p : pos l ∣ℤ p) where
  from_cofactors : (x y w : ℤ) (h : ℕ) → 0 < h → form p g q (x *ℤ pos h) (y *ℤ pos h) (w *ℤ pos h) ≡ pos 0 →
      gcd_of (nat_abs (y *ℤ pos h)) (nat_abs (w *ℤ pos h)) ≡ h → SquareModulo l (neg_ℤ (g *ℤ q))
  from_cofactors x y w h positive equation common = square_from_coprime prime g q y w (common_prime prime coprime l_p)
      (record { gcd_is_one = cofactors_coprime h (nat_abs y) (nat_abs w) positive (ap₂ gcd_of (size y) (size w) ∙ common) })
      (∣ℤ_cancel (pos (h * h)) (mul-pos positive positive) (scaled_divides p g q x y w (pos h) l_p.quotient (pos l) equation l_p.multiple))
    where
      size : (n : ℤ) → h * nat_abs n ≡ nat_abs (n *ℤ pos h)
      size n = mul_comm h (nat_abs n) ∙ sym (nat_abs-* n (pos h))

  -- the condition at p
  square_at : Solvable p g q → SquareModulo l (neg_ℤ (g *ℤ q))
  square_at s = with_third (third_divided p g q s.x s.y s.w (pos h) free s.solution.equation h_y h_w)
    where
      h : ℕ
      h = gcd_of (nat_abs s.y) (nat_abs s.w)

      h_y : pos h ∣ℤ s.y
      h_y = gcd-∣ℤ_left s.y s.w

      h_w : pos h ∣ℤ s.w
      h_w = gcd-∣ℤ_right s.y s.w

      nothing : {n : ℤ} → h ≡ 0 → pos h ∣ℤ n → n ≡ pos 0
      nothing zero-h d = d.multiple ∙ ap (λ (m : ℕ). d.quotient *ℤ pos m) zero-h ∙ *ℤ-zero d.quotient

      with_third : pos h ∣ℤ s.x → SquareModulo l (neg_ℤ (g *ℤ q))
      with_third h-x = ⊎_elim (λ zero-h. absurd (s.solution.not_all_zero (nothing zero-h h-x, nothing zero-h h_y, nothing zero-h h_w)))
          (λ positive. from_cofactors h-x.quotient h_y.quotient h_w.quotient h positive
          (subst₃ (λ x y w. form p g q x y w ≡ pos 0) h-x.multiple h_y.multiple h_w.multiple s.solution.equation)
          (ap₂ (λ y w. gcd_of (nat_abs y) (nat_abs w)) (sym h_y.multiple) (sym h_w.multiple)))
          (eq-zero-or-pos h)

pub condition_of_solution : {p g q : ℤ} → Levelled p g q → Solvable p g q → (l : ℕ) → Prime l → ConditionAt l p g q
condition_of_solution {p} {g} {q} h s l prime = record {
  at_p = λ d. square_at prime p g q h.squarefree_p h.coprime_pg d s;
  at_g = λ d. square_commuted q p (square_at prime g q p h.squarefree_g h.coprime_gq d (solvable_turned s));
  at_q = λ d. square_at prime q p g h.squarefree_q h.coprime_qp d (solvable_turned (solvable_turned s));
}
