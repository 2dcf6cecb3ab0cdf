-- The levelled equation of a conic in range is within the reach of the machine's answer, |p|, |g| ≤ |D| and |q| ≤ |aΔ|, and the
-- solution that the answer gives lies in the box. Assumes nothing.
use mathlib.Core.Path.{◌≡◌, sym, ap, ◌∙◌}
use Prim.Native.Nat.{ℕ, ◌*◌, ◌≤◌}
use native.Mathlib.Nat.{le_trans, le_of_eq, lt_of_le_of_lt, mul_comm, mul-le-mul, le-mul_of_pos_right}
use lib.Dec.{lit<, lit≤}
use lib.IntN.{ℤ, pos, nat_abs, ◌*ℤ◌}
use Rattle.whole.proofs.Size.{nat_abs-*}
use Rattle.number.proofs.Squarefree.{squarefree_positive}
use Rattle.std.specs.Prelude.{Ok}
use Rattle.legendre.specs.Answer
use Rattle.legendre.specs.Equation.{BoxSolution}
use Rattle.legendre.specs.Outcome.{outcome_of}
use Rattle.legendre.specs.Reach.{Reach}
use Rattle.legendre.specs.declared.outcome.Triple.{Triple}
use Rattle.legendre.proofs.Answer as Legendre
use Rattle.conic.specs.Sizes.{InLimit}
use Rattle.conic.specs.declared.conic.Conic.{Conic}
use Rattle.conic.proofs.Sizes.{limit_D, limit_aΔ, D-size, aΔ_size}
use Rattle.solve.specs.Demand2.{LevelledBy}
use Rattle.solve.specs.Level.{level_of}
use Rattle.solve.proofs.Levelling.{Levellable, levelled_by_own, levelled, D-is, aΔ_is}

-- n = ab·c with c positive: ab is no larger
product_at_most : (a b : ℤ) (c : ℕ) {n : ℤ} {limit : ℕ} → n ≡ a *ℤ b *ℤ pos c → 1 ≤ c → nat_abs n ≤ limit → nat_abs a * nat_abs b ≤ limit
product_at_most a b c e low high =
    le_trans (le-mul_of_pos_right (nat_abs a * nat_abs b) low)
    (le_trans (le_of_eq (sym (ap nat_abs e ∙ nat_abs-* (a *ℤ b) (pos c) ∙ ap (λ (m : ℕ). m * c) (nat_abs-* a b)))) high)

in_reach : {h : Conic} {d₁ e₁ : ℤ} {s t : ℕ} {p g q : ℤ} → LevelledBy h d₁ e₁ s t p g q → InLimit h → Reach p g q
in_reach {h} {s = s} {t = t} {p = p} {g = g} {q = q} v i =
    record {
      levelled = levelled v;
      small_p = lt_of_le_of_lt p_small (lit< tt);
      small_g = lt_of_le_of_lt g_small (lit< tt);
      small_q = lt_of_le_of_lt q_small (lit< tt);
      small = rw (nat_abs-* (p *ℤ g) q, nat_abs-* p g) (le_trans (mul-le-mul pg_small q_small) (lit≤ tt));
    }
  where
    pg_small : nat_abs p * nat_abs g ≤ limit_D
    pg_small = product_at_most p g (s * s) (D-is v) (mul-le-mul v.s_positive v.s_positive) (D-size h i)

    qg_small : nat_abs q * nat_abs g ≤ limit_aΔ
    qg_small = product_at_most q g (t * t) (aΔ_is v) (mul-le-mul v.t_positive v.t_positive) (aΔ_size h i)

    p_small : nat_abs p ≤ limit_D
    p_small = le_trans (le-mul_of_pos_right (nat_abs p) (squarefree_positive (levelled v).squarefree_g)) pg_small

    g_small : nat_abs g ≤ limit_D
    g_small =
        le_trans (le-mul_of_pos_right (nat_abs g) (squarefree_positive (levelled v).squarefree_p)) (rw (mul_comm (nat_abs g) (nat_abs p)) pg_small)

    q_small : nat_abs q ≤ limit_aΔ
    q_small = le_trans (le-mul_of_pos_right (nat_abs q) (squarefree_positive (levelled v).squarefree_g)) qg_small

module _ {h : Conic} (able : Levellable h) where
  pub level_in_reach : InLimit h → Reach (level_of h).p (level_of h).g (level_of h).q
  level_in_reach i = in_reach (levelled_by_own able) i

  pub chosen_in_box :
      (m : Triple) → outcome_of (level_of h).p (level_of h).g (level_of h).q ≡ Ok m →
      BoxSolution (level_of h).p (level_of h).g (level_of h).q m.x m.y m.w
  unfolding Answer.SolutionIsChosen
  chosen_in_box m e =
      (Legendre.solution_is_chosen (level_of h).p (level_of h).g (level_of h).q m (levelled (levelled_by_own able)) e).in_box
