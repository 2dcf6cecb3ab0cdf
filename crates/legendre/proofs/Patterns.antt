-- What turning the triple (p, g, q) to (g, q, p) keeps, and what negating all three keeps: being levelled, being solvable (in the box
-- too), the condition at a prime. Three numbers not 0 and not all of one sign can so be brought to p, g > 0 > q. Assumes nothing.
use mathlib.Core.Path.{◌≡◌, refl, sym, ap, subst, ◌∙◌}
use mathlib.Core.Logic.{inl, inr, ◌≢◌}
use mathlib.Core.List.{[], ◌∷◌}
use Prim.Native.Nat.{ℕ, zero, suc, ◌≤◌}
use native.Mathlib.Omega.{arith}
use lib.Dec.{lt→ltb}
use lib.IntN.{ℤ, pos, negsuc, neg_ℤ, ◌*ℤ◌, *ℤ_comm, neg_ℤ-neg_ℤ}
use Rattle.whole.proofs.Size.{nat_abs_neg}
use Rattle.whole.proofs.Ring.{by_ring, reify}
use Rattle.number.specs.Divides.{◌∣ℤ◌}
use Rattle.number.specs.Gcd.{Coprime}
use Rattle.number.specs.Residue.{SquareModulo}
use Rattle.number.specs.Squarefree.{Squarefree}
use Rattle.number.proofs.Divides.{∣ℤ_negation}
use Rattle.number.proofs.Gcd.{coprime_same_sizes}
use Rattle.number.proofs.Squarefree.{squarefree_not_zero, squarefree_same_size}
use Rattle.legendre.specs.Equation.{Levelled, form, Solution, Solvable, BoxSolution, SolvableInBox, OneSign, Positive, Negative, ConditionAt}

-- ---- turning

pub levelled_turned : {p g q : ℤ} → Levelled p g q → Levelled g q p
levelled_turned h = record {
  squarefree_p = h.squarefree_g;
  squarefree_g = h.squarefree_q;
  squarefree_q = h.squarefree_p;
  coprime_pg = h.coprime_gq;
  coprime_gq = h.coprime_qp;
  coprime_qp = h.coprime_pg;
}

pub form_turned : (p g q x y w : ℤ) → form g q p y w x ≡ form p g q x y w
form_turned p g q x y w = by_ring (p ∷ g ∷ q ∷ x ∷ y ∷ w ∷ []) (search reify depth 64 fits 9999) tt

pub solution_turned : {p g q x y w : ℤ} → Solution p g q x y w → Solution g q p y w x
solution_turned {p} {g} {q} {x} {y} {w} h = record {
  equation = form_turned p g q x y w ∙ h.equation;
  not_all_zero = λ zeros. h.not_all_zero (zeros.2, zeros.0, zeros.1);
}

pub solvable_turned : {p g q : ℤ} → Solvable p g q → Solvable g q p
solvable_turned h = record { x = h.y; y = h.w; w = h.x; solution = solution_turned h.solution }

-- the box turns with the triple
pub in_box_turned : {p g q : ℤ} → SolvableInBox p g q → SolvableInBox g q p
in_box_turned {p} {g} {q} h = record {
  x = h.y;
  y = h.w;
  w = h.x;
  solution = record {
    solution = solution_turned s.solution;
    x_within = rw (*ℤ_comm q p) s.y_within;
    y_within = rw (*ℤ_comm g p) s.w_within;
    w_within = s.x_within;
  };
}
  where
    s : BoxSolution p g q h.x h.y h.w
    s = h.solution

-- the product of the other two, in the other order
pub square_commuted : {l : ℕ} (a b : ℤ) → SquareModulo l (neg_ℤ (a *ℤ b)) → SquareModulo l (neg_ℤ (b *ℤ a))
square_commuted {l} a b = subst (λ (m : ℤ). SquareModulo l (neg_ℤ m)) (*ℤ_comm a b)

pub condition_turned : {l : ℕ} {p g q : ℤ} → ConditionAt l p g q → ConditionAt l g q p
condition_turned {l} {p} {g} {q} h = record {
  at_p = λ d. square_commuted p q (h.at_g d);
  at_g = λ d. square_commuted p g (h.at_q d);
  at_q = h.at_p;
}

-- ---- negating

squarefree_negated : {n : ℤ} → Squarefree n → Squarefree (neg_ℤ n)
squarefree_negated {n} = squarefree_same_size (sym (nat_abs_neg n))

coprime_negated : {a b : ℤ} → Coprime a b → Coprime (neg_ℤ a) (neg_ℤ b)
coprime_negated {a} {b} = coprime_same_sizes (sym (nat_abs_neg a)) (sym (nat_abs_neg b))

pub levelled_negated : {p g q : ℤ} → Levelled p g q → Levelled (neg_ℤ p) (neg_ℤ g) (neg_ℤ q)
levelled_negated h = record {
  squarefree_p = squarefree_negated h.squarefree_p;
  squarefree_g = squarefree_negated h.squarefree_g;
  squarefree_q = squarefree_negated h.squarefree_q;
  coprime_pg = coprime_negated h.coprime_pg;
  coprime_gq = coprime_negated h.coprime_gq;
  coprime_qp = coprime_negated h.coprime_qp;
}

form_negated : (p g q x y w : ℤ) → form (neg_ℤ p) (neg_ℤ g) (neg_ℤ q) x y w ≡ neg_ℤ (form p g q x y w)
form_negated p g q x y w = by_ring (p ∷ g ∷ q ∷ x ∷ y ∷ w ∷ []) (search reify depth 64 fits 9999) tt

-- the equation with all three negated has the same solutions
pub solution_negated : {p g q x y w : ℤ} → Solution (neg_ℤ p) (neg_ℤ g) (neg_ℤ q) x y w → Solution p g q x y w
solution_negated {p} {g} {q} {x} {y} {w} h = record {
  equation = sym (neg_ℤ-neg_ℤ (form p g q x y w)) ∙ ap neg_ℤ (sym (form_negated p g q x y w) ∙ h.equation);
  not_all_zero = h.not_all_zero;
}

pub solvable_negated : {p g q : ℤ} → Solvable (neg_ℤ p) (neg_ℤ g) (neg_ℤ q) → Solvable p g q
solvable_negated h = record { x = h.x; y = h.y; w = h.w; solution = solution_negated h.solution }

pub negated_solvable : {p g q : ℤ} → Solvable p g q → Solvable (neg_ℤ p) (neg_ℤ g) (neg_ℤ q)
negated_solvable {p} {g} {q} s =
    record {
      x = s.x;
      y = s.y;
      w = s.w;
      solution = record {
        equation = form_negated p g q s.x s.y s.w ∙ ap neg_ℤ s.solution.equation;
        not_all_zero = s.solution.not_all_zero;
      };
    }

-- minus the product of the other two is as it was
pub product_negated : (a b : ℤ) → neg_ℤ a *ℤ neg_ℤ b ≡ a *ℤ b
product_negated a b = by_ring (a ∷ b ∷ []) (search reify depth 64 fits 9999) tt

pub in_box_negated : {p g q : ℤ} → SolvableInBox (neg_ℤ p) (neg_ℤ g) (neg_ℤ q) → SolvableInBox p g q
in_box_negated {p} {g} {q} h = record {
  x = h.x;
  y = h.y;
  w = h.w;
  solution = record {
    solution = solution_negated s.solution;
    x_within = rw (← product_negated g q) s.x_within;
    y_within = rw (← product_negated p q) s.y_within;
    w_within = rw (← product_negated p g) s.w_within;
  };
}
  where
    s : BoxSolution (neg_ℤ p) (neg_ℤ g) (neg_ℤ q) h.x h.y h.w
    s = h.solution

divides_negated : {a b : ℤ} → a ∣ℤ neg_ℤ b → a ∣ℤ b
divides_negated {a} {b} h = subst (λ (n : ℤ). a ∣ℤ n) (neg_ℤ-neg_ℤ b) (∣ℤ_negation h)

pub condition_negated : {l : ℕ} {p g q : ℤ} → ConditionAt l p g q → ConditionAt l (neg_ℤ p) (neg_ℤ g) (neg_ℤ q)
condition_negated {l} {p} {g} {q} h = record {
  at_p = λ d. same g q (h.at_p (divides_negated d));
  at_g = λ d. same p q (h.at_g (divides_negated d));
  at_q = λ d. same p g (h.at_q (divides_negated d));
}
  where
    same : (a b : ℤ) → SquareModulo l (neg_ℤ (a *ℤ b)) → SquareModulo l (neg_ℤ (neg_ℤ a *ℤ neg_ℤ b))
    same a b = subst (λ (m : ℤ). SquareModulo l (neg_ℤ m)) (sym (product_negated a b))

-- ---- the signs

data Sign : ℤ → Type 0 where
  plus : (n : ℕ) → Sign (pos (suc n))
  minus : (n : ℕ) → Sign (negsuc n)

sign : (n : ℤ) → n ≢ pos 0 → Sign n
sign (pos zero) h = absurd (h refl)
sign (pos (suc n)) h = plus n
sign (negsuc n) h = minus n

positive : (n : ℕ) → Positive (pos (suc n))
positive n = record { lt = lt→ltb 0 (suc n) (omega arith) }

negative : (n : ℕ) → Negative (negsuc n)
negative n = record { lt = tt }

-- a property of triples that turning and negating keep
pub record Kept (P : ℤ → ℤ → ℤ → Type 0) : Type 0 where
  pub turn : {p g q : ℤ} → P g q p → P p g q
  pub negate : {p g q : ℤ} → P (neg_ℤ p) (neg_ℤ g) (neg_ℤ q) → P p g q

-- if it holds where p, g > 0 > q, it holds of every levelled triple that is not of one sign
module _ (P : ℤ → ℤ → ℤ → Type 0) (kept : Kept P) (here : (a b c : ℕ) → 1 ≤ a → 1 ≤ b → 1 ≤ c → P (pos a) (pos b) (neg_ℤ (pos c))) where
  first_two_positive : (a b c : ℕ) → P (pos (suc a)) (pos (suc b)) (negsuc c)
  first_two_positive a b c = here (suc a) (suc b) (suc c) (omega arith) (omega arith) (omega arith)

  by_signs : {p g q : ℤ} → Sign p → Sign g → Sign q → ¬ OneSign p g q → P p g q
  by_signs (plus a) (plus b) (plus c) mixed = absurd (mixed (inl (positive a, positive b, positive c)))
  by_signs (plus a) (plus b) (minus c) mixed = first_two_positive a b c
  by_signs (plus a) (minus b) (plus c) mixed = kept.turn (kept.turn (first_two_positive c a b))
  by_signs (plus a) (minus b) (minus c) mixed = kept.negate (kept.turn (first_two_positive b c a))
  by_signs (minus a) (plus b) (plus c) mixed = kept.turn (first_two_positive b c a)
  by_signs (minus a) (plus b) (minus c) mixed = kept.negate (kept.turn (kept.turn (first_two_positive c a b)))
  by_signs (minus a) (minus b) (plus c) mixed = kept.negate (first_two_positive a b c)
  by_signs (minus a) (minus b) (minus c) mixed = absurd (mixed (inr (negative a, negative b, negative c)))

  pub by_pattern : {p g q : ℤ} → Levelled p g q → ¬ OneSign p g q → P p g q
  by_pattern {p} {g} {q} h = by_signs
      (sign p (squarefree_not_zero h.squarefree_p)) (sign g (squarefree_not_zero h.squarefree_g))
      (sign q (squarefree_not_zero h.squarefree_q))
