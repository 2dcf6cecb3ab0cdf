-- Legendre's theorem. A solution makes the condition hold at each prime. The other way round, the signs are brought to p, g > 0 > q;
-- roots modulo the primes of a squarefree number make one modulo the number, and three roots make a solution. Assumes nothing.
use mathlib.Core.Path.{◌≡◌, refl, sym, ap, subst, ◌∙◌}
use mathlib.Core.List.{[], ◌∷◌}
use Prim.Native.Nat.{ℕ, ◌≤◌}
use lib.IntN.{ℤ, pos, neg_ℤ, nat_abs, ◌-ℤ◌, ◌*ℤ◌, *ℤ_comm}
use Rattle.whole.proofs.Laws.{*ℤ_negℤ}
use Rattle.whole.proofs.Size.{nat_abs_neg, square_is}
use Rattle.whole.proofs.Ring.{by_ring, reify}
use Rattle.number.specs.Divides.{◌∣ℤ◌}
use Rattle.number.specs.Prime.{Prime}
use Rattle.number.specs.Residue.{SquareModulo}
use Rattle.number.proofs.Divides.{∣ℤ_negation, pos_divides}
use Rattle.number.proofs.FromPrimes.{square_modulo_squarefree}
use Rattle.number.proofs.Gcd.{coprime_same_sizes}
use Rattle.number.proofs.Squarefree.{squarefree_same_size}
use Rattle.legendre.specs.Equation.{Levelled, Solvable, ConditionAt}
use Rattle.legendre.specs.Theorems.{Legendre}
use Rattle.legendre.proofs.Core.{solvable_by_roots}
use Rattle.legendre.proofs.Necessity.{condition_of_solution}
use Rattle.legendre.proofs.Patterns.{Kept, by_pattern, levelled_turned, solvable_turned, condition_turned, levelled_negated, solvable_negated, condition_negated}

-- the size of a root is a root
abbrev size_of_root : {m : ℕ} {n : ℤ} → SquareModulo m n → ℕ
size_of_root s = nat_abs s.root

size_is_root : {m : ℕ} {n : ℤ} (k : ℤ) → n ≡ k → (s : SquareModulo m n) → pos m ∣ℤ (pos (size_of_root s) *ℤ pos (size_of_root s) -ℤ k)
size_is_root {m} {n} k e s = subst (λ (d : ℤ). pos m ∣ℤ d) (ap (λ (x : ℤ). x -ℤ n) (square_is s.root) ∙ ap (λ (x : ℤ). pos (size_of_root s) *ℤ pos (size_of_root s) -ℤ x) e) s.is_root

-- two signs in a product cancel
minus_times_minus : (x y : ℤ) → neg_ℤ (x *ℤ neg_ℤ y) ≡ x *ℤ y
minus_times_minus x y = by_ring (x ∷ y ∷ []) (search reify depth 64 fits 9999) tt

-- what is to be proved of each triple
Sufficient : ℤ → ℤ → ℤ → Type 0
Sufficient p g q = Levelled p g q → ((l : ℕ) → Prime l → ConditionAt l p g q) → Solvable p g q

kept : Kept Sufficient
unfolding Sufficient
kept = record {
  turn = λ there h condition. solvable_turned (solvable_turned (there (levelled_turned h) (λ l prime. condition_turned (condition l prime))));
  negate = λ there h condition. solvable_negated (there (levelled_negated h) (λ l prime. condition_negated (condition l prime)));
}

sufficient : (a b c : ℕ) → 1 ≤ a → 1 ≤ b → 1 ≤ c → Sufficient (pos a) (pos b) (neg_ℤ (pos c))
unfolding Sufficient
sufficient a b c h_a h_b h_c h condition = solvable_by_roots a b c (size_of_root root_a) (size_of_root root_b) (size_of_root root_c) h_a h_b h_c record {
  coprime_ab = h.coprime_pg;
  coprime_bc = coprime_same_sizes refl (nat_abs_neg (pos c)) h.coprime_gq;
  coprime_ca = coprime_same_sizes (nat_abs_neg (pos c)) refl h.coprime_qp;
  root_a = size_is_root (pos b *ℤ pos c) (minus_times_minus (pos b) (pos c)) root_a;
  root_b = size_is_root (pos c *ℤ pos a) (minus_times_minus (pos a) (pos c) ∙ *ℤ_comm (pos a) (pos c)) root_b;
  root_c = size_is_root (pos a *ℤ neg_ℤ (pos b)) (sym (*ℤ_negℤ (pos a) (pos b))) root_c;
}
  where
    root_a : SquareModulo a (neg_ℤ (pos b *ℤ neg_ℤ (pos c)))
    root_a = square_modulo_squarefree h.squarefree_p (λ l prime d. (condition l prime).at_p (pos_divides l d))

    root_b : SquareModulo b (neg_ℤ (pos a *ℤ neg_ℤ (pos c)))
    root_b = square_modulo_squarefree h.squarefree_g (λ l prime d. (condition l prime).at_g (pos_divides l d))

    root_c : SquareModulo c (neg_ℤ (pos a *ℤ pos b))
    root_c = square_modulo_squarefree (squarefree_same_size (nat_abs_neg (pos c)) h.squarefree_q)
        (λ l prime d. (condition l prime).at_q (∣ℤ_negation (pos_divides l d)))

pub legendre : Legendre
unfolding Legendre Sufficient
legendre p g q h mixed = (condition_of_solution h, by_pattern Sufficient kept sufficient h mixed h)
