-- The chosen solution: the three searches, one in another, find a solution in the box wherever there is one, with the least W, then the
-- least X; Y is then determined, since g is not 0. So whatever lies in the box and has nothing before it there is the one chosen.
-- Assumes nothing.
use mathlib.Core.Path.{◌≡◌, sym, ap, subst, ◌∙◌}
use mathlib.Core.List.{[], ◌∷◌}
use mathlib.Core.Logic.{◌⊎◌, inl, inr, ⊎_elim, ◌↔◌, ◌≢◌}
use mathlib.Core.Bool.{Bool, true, ◌&&◌, not, and-eq-true_iff}
use Prim.Native.Nat.{ℕ, ◌*◌, ◌/◌, ◌≤◌, ◌<◌}
use native.Mathlib.Nat.{eq-or-lt_of_le, le_trans, not-le_of_lt, mul-div_cancel_left}
use native.Mathlib.Omega.{arith}
use borrow.Author.Tests.{ltb-true, lt-ltb, eqb-true, eq-eqb}
use lib.Dec.{eqb, ltb}
use lib.IntN.{ℤ, pos, neg_ℤ, nat_abs, ◌+ℤ◌, ◌*ℤ◌}
use Rattle.whole.proofs.Ring.{by_ring, reify}
use Rattle.whole.proofs.Combination.{combine, ◌⊠◌}
use Rattle.whole.proofs.Size.{nat_abs_neg, nat_abs_zero, nat_abs_positive, nat_abs-*}
use Rattle.number.specs.Square.{root_of}
use Rattle.number.proofs.Least.{le_of_not_above, least_holds, least_is_least, least_found}
use Rattle.number.proofs.Square.{root_is, root_of_square, at_most_root, square-≤}
use Rattle.legendre.specs.Equation.{form, Solution, BoxSolution, SolvableInBox}
use Rattle.legendre.specs.Outcome.{side, solves, least_y, least_x, least_w, chosen}
use Rattle.legendre.specs.Answer.{Chosen}
use Rattle.legendre.specs.declared.outcome.Triple.{Triple}
use Rattle.legendre.proofs.Tests.{all_three_iff, not_iff}

-- ---- the box and its tests

pub within_side_iff : (a b : ℤ) {n : ℕ} → (n < side a b) ↔ (n * n ≤ nat_abs (a *ℤ b))
unfolding side
within_side_iff a b {n} = (
  λ h. le_trans (square-≤ (omega arith)) (root_is (nat_abs (a *ℤ b))).square_at_most,
  λ h. let low : n ≤ root_of (nat_abs (a *ℤ b)) = at_most_root (nat_abs (a *ℤ b)) h in omega arith,
)

all_zero_iff : (x y w : ℕ) → (eqb x 0 && eqb y 0 && eqb w 0 ≡ true) ↔ ((pos x ≡ pos 0) × (pos y ≡ pos 0) × (pos w ≡ pos 0))
all_zero_iff x y w = (
  λ e. (ap pos (eqb-true x 0 (tests.0 e).0), ap pos (eqb-true y 0 (tests.0 e).1), ap pos (eqb-true w 0 (tests.0 e).2)),
  λ h. tests.1 (eq-eqb x 0 (ap nat_abs h.0), eq-eqb y 0 (ap nat_abs h.1), eq-eqb w 0 (ap nat_abs h.2)),
)
  where
    tests : (eqb x 0 && eqb y 0 && eqb w 0 ≡ true) ↔ ((eqb x 0 ≡ true) × (eqb y 0 ≡ true) × (eqb w 0 ≡ true))
    tests = all_three_iff (eqb x 0) (eqb y 0) (eqb w 0)

solves_iff : (p g q : ℤ) (x y w : ℕ) → (solves p g q w x y ≡ true) ↔ Solution p g q (pos x) (pos y) (pos w)
unfolding solves
solves_iff p g q x y w = (
  solution,
  λ h. tests.1 (eq-eqb (nat_abs value) 0 (ap nat_abs h.equation), (not_iff zeros).1 (λ e. h.not_all_zero ((all_zero_iff x y w).0 e))),
)
  where
    value : ℤ
    value = form p g q (pos x) (pos y) (pos w)

    zeros : Bool
    zeros = eqb x 0 && eqb y 0 && eqb w 0

    tests : (eqb (nat_abs value) 0 && not zeros ≡ true) ↔ ((eqb (nat_abs value) 0 ≡ true) × (not zeros ≡ true))
    tests = and-eq-true_iff (eqb (nat_abs value) 0) (not zeros)

    solution : eqb (nat_abs value) 0 && not zeros ≡ true → Solution p g q (pos x) (pos y) (pos w)
    solution e = record {
      equation = nat_abs_zero value (eqb-true (nat_abs value) 0 (tests.0 e).0);
      not_all_zero = λ h. (not_iff zeros).0 (tests.0 e).1 ((all_zero_iff x y w).1 h);
    }

-- a solution in the box, as the searches test it
record Tested (p g q : ℤ) (x y w : ℕ) : Type 0 where
  solved : solves p g q w x y ≡ true
  x_below : x < side g q
  y_below : y < side p q
  w_below : w < side p g

tested : {p g q : ℤ} {x y w : ℕ} → BoxSolution p g q x y w → Tested p g q x y w
tested {p} {g} {q} {x} {y} {w} b = record {
  solved = (solves_iff p g q x y w).1 b.solution;
  x_below = (within_side_iff g q).1 b.x_within;
  y_below = (within_side_iff p q).1 b.y_within;
  w_below = (within_side_iff p g).1 b.w_within;
}

in_box : {p g q : ℤ} {x y w : ℕ} → Tested p g q x y w → BoxSolution p g q x y w
in_box {p} {g} {q} {x} {y} {w} t = record {
  solution = (solves_iff p g q x y w).0 t.solved;
  x_within = (within_side_iff g q).0 t.x_below;
  y_within = (within_side_iff p q).0 t.y_below;
  w_within = (within_side_iff p g).0 t.w_below;
}

-- ---- what has nothing before it in the box is chosen

-- pX² + gY² + qW² = 0 says what gY² is
pub equation_iff : (p g q x y w : ℤ) → (form p g q x y w ≡ pos 0) ↔ (g *ℤ (y *ℤ y) ≡ neg_ℤ (p *ℤ (x *ℤ x) +ℤ q *ℤ (w *ℤ w)))
equation_iff p g q x y w = (
  λ e. combine (pos 1 ⊠ e) (by_ring (p ∷ g ∷ q ∷ x ∷ y ∷ w ∷ []) (search reify depth 64 fits 9999) tt),
  λ e. combine (pos 1 ⊠ e) (by_ring (p ∷ g ∷ q ∷ x ∷ y ∷ w ∷ []) (search reify depth 64 fits 9999) tt),
)

-- so the sizes are equal
pub size_of_terms : {p g q : ℤ} {x w : ℕ} (y : ℕ) → Solution p g q (pos x) (pos y) (pos w)
    → nat_abs (p *ℤ (pos x *ℤ pos x) +ℤ q *ℤ (pos w *ℤ pos w)) ≡ nat_abs g * (y * y)
size_of_terms {p} {g} {q} {x} {w} y s =
    sym (nat_abs_neg (p *ℤ (pos x *ℤ pos x) +ℤ q *ℤ (pos w *ℤ pos w)))
    ∙ ap nat_abs (sym ((equation_iff p g q (pos x) (pos y) (pos w)).0 s.equation)) ∙ nat_abs-* g (pos (y * y))

-- and Y is the root of |pX² + qW²| / |g|
y_is_root : {p g q : ℤ} {x w : ℕ} (y : ℕ) → g ≢ pos 0 → Solution p g q (pos x) (pos y) (pos w)
    → y ≡ root_of (nat_abs (p *ℤ (pos x *ℤ pos x) +ℤ q *ℤ (pos w *ℤ pos w)) / nat_abs g)
y_is_root {g} y g≢0 s =
    sym (ap (λ (n : ℕ). root_of (n / nat_abs g)) (size_of_terms y s) ∙ ap root_of (mul-div_cancel_left (y * y) (nat_abs_positive g≢0)) ∙ root_of_square y)

-- the walk by W, and for each W by X
pub chosen_by_walk : {p g q : ℤ} (x y w : ℕ) → g ≢ pos 0 → BoxSolution p g q x y w
    → ((a b c : ℕ) → c < w → ¬ BoxSolution p g q a b c)
    → ((a b : ℕ) → a < x → ¬ BoxSolution p g q a b w)
    → Chosen p g q record { x = x; y = y; w = w }
chosen_by_walk {p} {g} {q} x y w g≢0 here no-smaller-w no-smaller-x = record { in_box = here; least = compare_w }
  where
    compare_x : (a b : ℕ) → BoxSolution p g q a b w → (x < a) ⊎ ((x ≡ a) × (y ≡ b))
    compare_x a b there = ⊎_elim
        (λ e. inr (e, y_is_root y g≢0 here.solution ∙ sym (y_is_root b g≢0 (subst (λ (n : ℕ). Solution p g q (pos n) (pos b) (pos w)) (sym e) there.solution))))
        inl
        (eq-or-lt_of_le (le_of_not_above (λ h. no-smaller-x a b h there)))

    compare_w : (a b c : ℕ) → BoxSolution p g q a b c → (w < c) ⊎ ((w ≡ c) × (x < a)) ⊎ ((w ≡ c) × (x ≡ a) × (y ≡ b))
    compare_w a b c there = ⊎_elim
        (λ e. inr (⊎_elim (λ h. inl (e, h)) (λ h. inr (e, h.0, h.1)) (compare_x a b (subst (BoxSolution p g q a b) (sym e) there))))
        inl
        (eq-or-lt_of_le (le_of_not_above (λ h. no-smaller-w a b c h there)))

-- ---- the searches find it

module _ (p g q : ℤ) where
  -- some Y at W and X
  abbrev row : ℕ → ℕ → Bool
  row w x = ltb (least_y p g q w x) (side p q)

  -- some X and Y at W
  abbrev slice : ℕ → Bool
  slice w = ltb (least_x p g q w) (side g q)

  row_found : {x y w : ℕ} → BoxSolution p g q x y w → row w x ≡ true
  unfolding least_y
  row_found {x} {y} {w} b = lt-ltb (least_y p g q w x) (side p q) (least_found (solves p g q w x) (tested b).y_below (tested b).solved)

  slice_found : {x y w : ℕ} → BoxSolution p g q x y w → slice w ≡ true
  unfolding least_x
  slice_found {w} b = lt-ltb (least_x p g q w) (side g q) (least_found (row w) (tested b).x_below (row_found b))

  chosen_w_found : {x y w : ℕ} → BoxSolution p g q x y w → least_w p g q < side p g
  unfolding least_w
  chosen_w_found b = least_found slice (tested b).w_below (slice_found b)

  chosen_in_box : SolvableInBox p g q → BoxSolution p g q (least_x p g q (least_w p g q)) (least_y p g q (least_w p g q) (least_x p g q (least_w p g q))) (least_w p g q)
  unfolding least_w least_x least_y
  chosen_in_box found = in_box record { solved = least_holds (solves p g q w x) (side p q) y_below; x_below = x_below; y_below = y_below; w_below = w_below }
    where
      w : ℕ
      w = least_w p g q

      x : ℕ
      x = least_x p g q w

      w_below : w < side p g
      w_below = chosen_w_found found.solution

      x_below : x < side g q
      x_below = ltb-true x (side g q) (least_holds slice (side p g) w_below)

      y_below : least_y p g q w x < side p q
      y_below = ltb-true (least_y p g q w x) (side p q) (least_holds (row w) (side g q) x_below)

  pub chosen_is_chosen : g ≢ pos 0 → SolvableInBox p g q → Chosen p g q (chosen p g q)
  unfolding chosen least_w least_x
  chosen_is_chosen g≢0 found =
      chosen_by_walk (least_x p g q (least_w p g q)) _ (least_w p g q) g≢0 (chosen_in_box found)
      (λ a b c smaller there. not-le_of_lt smaller (least_is_least slice (side p g) (slice_found there)))
      (λ a b smaller there. not-le_of_lt smaller (least_is_least (row (least_w p g q)) (side g q) (row_found there)))

-- ---- only one is chosen

same_triple : {s t : Triple} → (s.w ≡ t.w) × (s.x ≡ t.x) × (s.y ≡ t.y) → s ≡ t
same_triple e i = record { x = e.1 i; y = e.2 i; w = e.0 i }

pub chosen_unique : {p g q : ℤ} {s t : Triple} → Chosen p g q s → Chosen p g q t → s ≡ t
chosen_unique {s} {t} h k = same_triple (agree (h.least t.x t.y t.w k.in_box) (k.least s.x s.y s.w h.in_box))
  where
    Least : Triple → Triple → Type 0
    Least s t = (s.w < t.w) ⊎ ((s.w ≡ t.w) × (s.x < t.x)) ⊎ ((s.w ≡ t.w) × (s.x ≡ t.x) × (s.y ≡ t.y))

    agree : Least s t → Least t s → (s.w ≡ t.w) × (s.x ≡ t.x) × (s.y ≡ t.y)
    agree (inr (inr same)) other = same
    agree (inl before) (inl after) = absurd (omega arith)
    agree (inl before) (inr (inl after)) = absurd (omega arith)
    agree (inl before) (inr (inr same)) = absurd (omega arith)
    agree (inr (inl before)) (inl after) = absurd (omega arith)
    agree (inr (inl before)) (inr (inl after)) = absurd (omega arith)
    agree (inr (inl before)) (inr (inr same)) = absurd (omega arith)
