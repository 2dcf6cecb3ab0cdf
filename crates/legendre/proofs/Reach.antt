-- Within reach no product of the answer's functions leaves 64 bits: a product of two coefficients divides that of the three, which is not
-- 0; and in the box X² is at most |gq| and W² at most |pg|, so that pX² and qW² are at most |pgq| in size. Assumes nothing.
use mathlib.Core.Path.{◌≡◌, sym, ap, ◌∙◌}
use mathlib.Core.List.{[], ◌∷◌}
use Prim.Native.Nat.{ℕ, suc, ◌*◌, ◌^◌, ◌≤◌}
use native.Mathlib.Nat.{le_trans, le_of_eq, mul_comm, le-mul_of_pos_right, mul-le-mul_left, le_of_suc-le-suc}
use native.Mathlib.Omega.{arith}
use lib.IntN.{ℤ, pos, nat_abs, ◌+ℤ◌, ◌*ℤ◌}
use mir.Syntax.{w64}
use mir.Val.{SFits}
use mir.Facts.{to_z-of_z}
use Rattle.whole.proofs.Ring.{by_ring, reify}
use Rattle.whole.proofs.Size.{nat_abs-+, nat_abs-*}
use Rattle.number.proofs.Square.{order_of_squares}
use Rattle.number.proofs.Squarefree.{squarefree_positive}
use Rattle.legendre.specs.Reach.{Reach, Part, Place, Terms, Triable}
use Rattle.legendre.proofs.MachineProducts.{kept, small_fits}

term_small : (a : ℤ) {n : ℕ} (m : ℕ) → n ≤ m → m * nat_abs a ≤ 2 ^ 60 → nat_abs (a *ℤ pos n) ≤ 2 ^ 60
term_small a {n} m h small =
    le_trans (le_of_eq (nat_abs-* a (pos n))) (le_trans (mul-le-mul_left (nat_abs a) h) (le_trans (le_of_eq (mul_comm (nat_abs a) m)) small))

-- a number whose square is at most 2⁶⁰
pub root_small : (n : ℕ) → n * n ≤ 2 ^ 60 → n ≤ 2 ^ 30
root_small n h = le_of_suc-le-suc (order_of_squares n (suc (2 ^ 30)) (omega arith))

module _ {p g q : ℤ} (reach : Reach p g q) where
  pub p_fits : SFits w64 p
  p_fits = small_fits (omega (arith, reach.small_p))

  pub g_fits : SFits w64 g
  g_fits = small_fits (omega (arith, reach.small_g))

  pub q_fits : SFits w64 q
  q_fits = small_fits (omega (arith, reach.small_q))

  -- so the machine keeps them
  pub kept_p : kept p ≡ p
  kept_p = to_z-of_z p_fits

  pub kept_g : kept g ≡ g
  kept_g = to_z-of_z g_fits

  pub kept_q : kept q ≡ q
  kept_q = to_z-of_z q_fits

  pub in_the_numbers : {A : Type 0} (f : ℤ → ℤ → ℤ → A) → f (kept p) (kept g) (kept q) ≡ f p g q
  in_the_numbers f i = f (kept_p i) (kept_g i) (kept_q i)

  pub triable_p : Triable (nat_abs p)
  triable_p = record { positive = squarefree_positive reach.levelled.squarefree_p; small = reach.small_p }

  pub triable_g : Triable (nat_abs g)
  triable_g = record { positive = squarefree_positive reach.levelled.squarefree_g; small = reach.small_g }

  pub triable_q : Triable (nat_abs q)
  triable_q = record { positive = squarefree_positive reach.levelled.squarefree_q; small = reach.small_q }

  -- the product of the three sizes, taken in the three orders
  p_last : nat_abs (g *ℤ q) * nat_abs p ≤ 2 ^ 60
  p_last = le_trans (le_of_eq (sym (nat_abs-* (g *ℤ q) p) ∙ ap nat_abs turned)) reach.small
    where
      turned : g *ℤ q *ℤ p ≡ p *ℤ g *ℤ q
      turned = by_ring (p ∷ g ∷ q ∷ []) (search reify depth 64 fits 9999) tt

  g_last : nat_abs (p *ℤ q) * nat_abs g ≤ 2 ^ 60
  g_last = le_trans (le_of_eq (sym (nat_abs-* (p *ℤ q) g) ∙ ap nat_abs turned)) reach.small
    where
      turned : p *ℤ q *ℤ g ≡ p *ℤ g *ℤ q
      turned = by_ring (p ∷ g ∷ q ∷ []) (search reify depth 64 fits 9999) tt

  q_last : nat_abs (p *ℤ g) * nat_abs q ≤ 2 ^ 60
  q_last = le_trans (le_of_eq (sym (nat_abs-* (p *ℤ g) q))) reach.small

  pub gq_small : nat_abs (g *ℤ q) ≤ 2 ^ 60
  gq_small = le_trans (le-mul_of_pos_right (nat_abs (g *ℤ q)) triable_p.positive) p_last

  pub pq_small : nat_abs (p *ℤ q) ≤ 2 ^ 60
  pq_small = le_trans (le-mul_of_pos_right (nat_abs (p *ℤ q)) triable_g.positive) g_last

  pub pg_small : nat_abs (p *ℤ g) ≤ 2 ^ 60
  pg_small = le_trans (le-mul_of_pos_right (nat_abs (p *ℤ g)) triable_q.positive) q_last

  pub part_p : Part p g q
  part_p = record { size = triable_p; product = gq_small }

  pub part_g : Part g p q
  part_g = record { size = triable_g; product = pq_small }

  pub part_q : Part q p g
  part_q = record { size = triable_q; product = pg_small }

  pub terms_small : {w x : ℕ} → Place p g q w x → Terms p q w x
  terms_small place = record {
    x_square = le_trans place.x_within gq_small;
    w_square = le_trans place.row.w_within pg_small;
    x_term = term_small p (nat_abs (g *ℤ q)) place.x_within p_last;
    w_term = term_small q (nat_abs (p *ℤ g)) place.row.w_within q_last;
  }

pub terms_at_most : {p q : ℤ} {w x : ℕ} → Terms p q w x → nat_abs (p *ℤ pos (x * x) +ℤ q *ℤ pos (w * w)) ≤ 2 ^ 62
terms_at_most {p} {q} {w} {x} t = omega (arith, nat_abs-+ (p *ℤ pos (x * x)) (q *ℤ pos (w * w)), t.x_term, t.w_term)
