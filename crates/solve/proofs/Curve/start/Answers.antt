-- `solve::Curve::start` meets its contract: the root of |D| is small, so each step fits. Assumes nothing.
use mathlib.Core.Path.{◌≡◌, refl, sym, ap, ◌∙◌}
use mathlib.Core.Bool.{true, false, cond}
use Prim.Native.Nat.{◌≤◌}
use lib.IntN.{pos, nat_abs, ◌-ℤ◌, ◌*ℤ◌}
use mir.Syntax.{w64}
use mir.Facts.{to_z-of_z}
use borrow.Author.Rules.{sfits_of}
use native.Mathlib.Omega.{arith}
use Rattle.std.proofs.lemmas.Int.{ints}
use Rattle.whole.proofs.Signed.{casts, fits, reads}
use Rattle.number.specs.Square.{root_of}
use Rattle.point.specs.Paper.{is_zero}
use Rattle.point.specs.declared.Point.{Point}
use Rattle.point.proofs.Tests.{is_zero_iff, is_zero_not}
use Rattle.point.proofs.Vector.{same_point}
use Rattle.conic.specs.Form.{D}
use Rattle.conic.specs.declared.conic.Conic.{Conic}
use Rattle.solve.specs.Sizes.{limit_W'}
use Rattle.solve.specs.Solve.{start_at_infinity}
use Rattle.solve.proofs.Infinity.{root_small}
use Rattle.solve.proofs.Curve.start.Goals.{After-root-root}
use Rattle.solve.proofs.Curve.start.Goals as goal

module _ (h : Conic) where
  abbrev axis : Point
  axis = record { x = pos 1; y = pos 0; z = pos 0 }

  abbrev asymptote : Point
  asymptote = record { x = pos (root_of (nat_abs (D h))) -ℤ h.b; y = pos 2 *ℤ h.a; z = pos 0 }

  on_axis : is_zero h.a ≡ true → axis ≡ start_at_infinity h
  unfolding start_at_infinity
  on_axis e = ap (λ b. cond b axis asymptote) (sym e)

  on_asymptote : is_zero h.a ≡ false → asymptote ≡ start_at_infinity h
  unfolding start_at_infinity
  on_asymptote e = ap (λ b. cond b axis asymptote) (sym e)

root_is : (c : After-root-root) → c.root-root.result ≡ root_of (nat_abs (D c.args.self.h))
root_is c =
    c.root-root.ensures
    ∙ ap root_of (c.magnitude.ensures ∙ ap nat_abs (to_z-of_z {w = w64} (search sfits_of) ∙ c.discriminant.ensures))

root_at_most : (c : After-root-root) → c.root-root.result ≤ limit_W'
root_at_most c = rw (root_is c) (root_small c.args.self.h c.args.self.in_limit)

pub returns-then-a-eq0 : goal.returns-then-a-eq0
returns-then-a-eq0 c = on_axis _ (is_zero_iff.1 (omega (arith, ints)))

pub overflow_cast-root : goal.overflow_cast-root
overflow_cast-root c = let small = root_at_most c in fits w64 (search casts depth 60 fits 9999) tt

pub overflow_sub-result : goal.overflow_sub-result
overflow_sub-result c = let small = root_at_most c in fits w64 (search casts depth 60 fits 9999) tt

pub returns : goal.returns
returns c =
    let small = root_at_most c in
    same_point
    (reads (search casts depth 60 fits 9999) tt (ap (λ n. pos n -ℤ c.args.self.h.b) (root_is c)))
    (reads (search casts depth 60 fits 9999) tt refl)
    refl
    ∙ on_asymptote c.args.self.h (is_zero_not (λ e. omega (arith, ints)))
