-- `solve::level::Level::primed` meets its contract: s, t and g are at least 1, so each product on the way is at most the last.
-- Assumes nothing.
use mathlib.Core.Path.{◌≡◌, refl, sym, ◌∙◌}
use mathlib.Core.List.{[], ◌∷◌}
use Prim.Native.Nat.{ℕ, ◌≤◌}
use native.Mathlib.Nat.{le_trans, le_of_eq, le-mul_of_pos_right, mul_comm}
use lib.IntN.{ℤ, pos, negsuc, nat_abs, ◌*ℤ◌}
use lib.Signed.{◌<ℤ◌}
use mir.Syntax.{w64}
use borrow.Author.Rules.{sfits_of}
use mir.Val.{SFits, to_z, of_z}
use Rattle.whole.proofs.Order.{<-of_pos}
use Rattle.whole.proofs.Ring.{by_ring, reify}
use Rattle.whole.proofs.Size.{nat_abs-*}
use Rattle.whole.proofs.Signed.{Sized, operation, kept, in_range_lem, read_back, cast_at_most, casts, fits, reads}
use Rattle.legendre.specs.declared.outcome.Triple.{Triple}
use Rattle.point.proofs.Vector.{same_point}
use Rattle.solve.specs.Level.{primed}
use Rattle.solve.specs.Sizes.{Carries, limit_X', limit_Y', limit_W'}
use Rattle.solve.specs.declared.level.Level.{Level}
use Rattle.solve.proofs.level.Level.primed.Goals as goal

in_threes : (s t g y : ℤ) → s *ℤ (t *ℤ (g *ℤ y)) ≡ s *ℤ t *ℤ g *ℤ y
in_threes s t g y = by_ring (s ∷ t ∷ g ∷ y ∷ []) (search reify depth 64 fits 9999) tt

-- a factor of a product is at most the product, the other factor being positive
factor_at_most : {n : ℕ} (a b : ℤ) → pos 0 <ℤ a → nat_abs (a *ℤ b) ≤ n → nat_abs b ≤ n
factor_at_most (pos a) b h k =
    le_trans (le-mul_of_pos_right (nat_abs b) (<-of_pos h)) (le_trans (le_of_eq (mul_comm (nat_abs b) a ∙ sym (nat_abs-* (pos a) b))) k)
factor_at_most (negsuc a) b h k = absurd h.lt

-- a product of which a bound is known
abbrev product_at_most : {a b : ℤ} (n : ℕ) (d : Sized a) (e : Sized b) → nat_abs (d.value *ℤ e.value) ≤ n → Sized (a *ℤ b)
product_at_most n d e h = operation ◌*ℤ◌ d e n h

module _ {v : Level} {m : Triple} (h : Carries v m) where
  t_x : nat_abs (v.t *ℤ pos m.x) ≤ limit_X'
  unfolding primed
  t_x = h.primed_within.x_within

  s_w : nat_abs (v.s *ℤ pos m.w) ≤ limit_W'
  unfolding primed
  s_w = h.primed_within.z_within

  stg_y : nat_abs (v.s *ℤ (v.t *ℤ (v.g *ℤ pos m.y))) ≤ limit_Y'
  unfolding primed
  stg_y = rw (in_threes v.s v.t v.g (pos m.y)) h.primed_within.y_within

  tg_y : nat_abs (v.t *ℤ (v.g *ℤ pos m.y)) ≤ limit_Y'
  tg_y = factor_at_most v.s (v.t *ℤ (v.g *ℤ pos m.y)) h.s_positive stg_y

  g_y : nat_abs (v.g *ℤ pos m.y) ≤ limit_Y'
  g_y = factor_at_most v.t (v.g *ℤ pos m.y) h.t_positive tg_y

  x_small : m.x ≤ limit_X'
  x_small = factor_at_most v.t (pos m.x) h.t_positive t_x

  y_small : m.y ≤ limit_Y'
  y_small = factor_at_most v.g (pos m.y) h.g_positive g_y

  w_small : m.w ≤ limit_W'
  w_small = factor_at_most v.s (pos m.w) h.s_positive s_w

-- the machine's products
module _ {v : Level} {m : Triple} (h : Carries v m) (s_fits : SFits w64 v.s) (t_fits : SFits w64 v.t) (g_fits : SFits w64 v.g) where
  abbrev s : Sized (to_z w64 (of_z w64 v.s))
  s = read_back w64 (in_range_lem w64 v.s s_fits)

  abbrev t : Sized (to_z w64 (of_z w64 v.t))
  t = read_back w64 (in_range_lem w64 v.t t_fits)

  abbrev g : Sized (to_z w64 (of_z w64 v.g))
  g = read_back w64 (in_range_lem w64 v.g g_fits)

  abbrev t_x_sized : Sized (to_z w64 (of_z w64 v.t) *ℤ to_z w64 m.x)
  t_x_sized = product_at_most limit_X' t (cast_at_most w64 limit_X' (x_small h)) (t_x h)

  abbrev g_y_sized : Sized (to_z w64 (of_z w64 v.g) *ℤ to_z w64 m.y)
  g_y_sized = product_at_most limit_Y' g (cast_at_most w64 limit_Y' (y_small h)) (g_y h)

  abbrev tg_y_sized : Sized (to_z w64 (of_z w64 v.t) *ℤ to_z w64 (of_z w64 (to_z w64 (of_z w64 v.g) *ℤ to_z w64 m.y)))
  tg_y_sized = product_at_most limit_Y' t (kept w64 g_y_sized) (tg_y h)

  abbrev stg_y_sized :
      Sized
      (to_z w64 (of_z w64 v.s) *ℤ to_z w64 (of_z w64 (to_z w64 (of_z w64 v.t) *ℤ to_z w64 (of_z w64 (to_z w64 (of_z w64 v.g) *ℤ to_z w64 m.y)))))
  stg_y_sized = product_at_most limit_Y' s (kept w64 tg_y_sized) (stg_y h)

  abbrev s_w_sized : Sized (to_z w64 (of_z w64 v.s) *ℤ to_z w64 m.w)
  s_w_sized = product_at_most limit_W' s (cast_at_most w64 limit_W' (w_small h)) (s_w h)

  is_primed :
      record {
        x = to_z w64 (of_z w64 (to_z w64 (of_z w64 v.t) *ℤ to_z w64 m.x));
        y =
            to_z w64
            (of_z w64 (to_z w64 (of_z w64 v.s) *ℤ to_z w64 (of_z w64 (to_z w64 (of_z w64 v.t) *ℤ to_z w64 (of_z w64 (to_z w64 (of_z w64 v.g) *ℤ to_z w64 m.y))))));
        z = to_z w64 (of_z w64 (to_z w64 (of_z w64 v.s) *ℤ to_z w64 m.w));
      } ≡ primed v m
  unfolding primed
  is_primed =
      same_point
      (reads (kept w64 t_x_sized) tt refl)
      (reads (kept w64 stg_y_sized) tt (in_threes v.s v.t v.g (pos m.y)))
      (reads (kept w64 s_w_sized) tt refl)

pub overflow_cast-result : goal.overflow_cast-result
overflow_cast-result c = let small = x_small c.requires in fits w64 (search casts) tt

pub overflow_mul-result : goal.overflow_mul-result
overflow_mul-result c = fits w64 (t_x_sized c.requires (search sfits_of) (search sfits_of) (search sfits_of)) tt

pub overflow_cast-result-2 : goal.overflow_cast-result-2
overflow_cast-result-2 c = let small = y_small c.requires in fits w64 (search casts) tt

pub overflow_mul-result-2 : goal.overflow_mul-result-2
overflow_mul-result-2 c = fits w64 (g_y_sized c.requires (search sfits_of) (search sfits_of) (search sfits_of)) tt

pub overflow_mul-result-3 : goal.overflow_mul-result-3
overflow_mul-result-3 c = fits w64 (tg_y_sized c.requires (search sfits_of) (search sfits_of) (search sfits_of)) tt

pub overflow_mul-result-4 : goal.overflow_mul-result-4
overflow_mul-result-4 c = fits w64 (stg_y_sized c.requires (search sfits_of) (search sfits_of) (search sfits_of)) tt

pub overflow_cast-result-3 : goal.overflow_cast-result-3
overflow_cast-result-3 c = let small = w_small c.requires in fits w64 (search casts) tt

pub overflow_mul-result-5 : goal.overflow_mul-result-5
overflow_mul-result-5 c = fits w64 (s_w_sized c.requires (search sfits_of) (search sfits_of) (search sfits_of)) tt

pub returns : goal.returns
returns c = is_primed c.requires (search sfits_of) (search sfits_of) (search sfits_of)
