-- `solve::level::Level::of` meets its contract: the parts of a number are at most the number in size, and D is not 0. Assumes nothing.
use mathlib.Core.Logic.{◌≢◌}
use mathlib.Core.Path.{◌≡◌, refl, sym, ap, ◌∙◌}
use Prim.Native.Nat.{ℕ, zero, suc, ◌*◌, ◌≤◌, zero-le}
use native.Mathlib.Nat.{le_trans, le-mul_of_pos_right, zero-lt-suc}
use lib.Dec.{lit≤}
use lib.IntN.{ℤ, pos, nat_abs, ◌*ℤ◌}
use mir.Syntax.{w64}
use Rattle.whole.proofs.Signed.{sizes, fits, reads}
use Rattle.whole.proofs.Size.{quotient_size}
use Rattle.number.specs.Split.{split_of}
use Rattle.number.specs.Squarefree.{free_part, square_part}
use Rattle.number.specs.declared.splitting.Parts.{Parts}
use Rattle.number.proofs.Squarefree.{squarefree_not_zero}
use Rattle.number.proofs.SquarefreeSplit.{split_is, square_part_squared_at_most}
use Rattle.point.specs.Normal.{largest}
use Rattle.conic.specs.Form.{D, Δ}
use Rattle.conic.specs.Sizes.{InLimit}
use Rattle.conic.specs.declared.conic.Conic.{Conic}
use Rattle.conic.proofs.Bounds.{formSizes}
use Rattle.conic.proofs.Sizes.{D-size, aΔ_size}
use Rattle.solve.specs.Level.{level_from, level_of}
use Rattle.solve.specs.Sizes.{PartsWithin}
use Rattle.solve.proofs.level.Level.of.Goals as goal

free_at_most : (n : ℤ) → nat_abs (free_part n) ≤ nat_abs n
unfolding free_part
free_at_most n = quotient_size n (pos (square_part n * square_part n))

square_at_most : (n : ℤ) → square_part n ≤ nat_abs n
square_at_most n = le_trans (at_most_square (square_part n)) (square_part_squared_at_most n)
  where
    at_most_square : (s : ℕ) → s ≤ s * s
    at_most_square zero = zero-le
    at_most_square (suc s) = le-mul_of_pos_right (suc s) (zero-lt-suc s)

module _ (h : Conic) {d e : Parts} (d_is : d ≡ split_of (D h)) (e_is : e ≡ split_of (h.a *ℤ Δ h)) where
  parts_within : InLimit h → D h ≢ pos 0 → PartsWithin d e
  parts_within i curved =
      record {
        d_not_zero = λ z. squarefree_not_zero (split_is (D h) curved).squarefree (sym (ap (λ p. p.free) d_is) ∙ z);
        d_within = rw d_is (le_trans (free_at_most (D h)) D-small);
        s_within = rw d_is (le_trans (square_at_most (D h)) D-small);
        e_within = rw e_is (le_trans (free_at_most (h.a *ℤ Δ h)) aΔ_small);
        t_within = rw e_is (le_trans (square_at_most (h.a *ℤ Δ h)) aΔ_small);
      }
    where
      D-small : nat_abs (D h) ≤ largest
      D-small = le_trans (D-size h i) (lit≤ tt)

      aΔ_small : nat_abs (h.a *ℤ Δ h) ≤ largest
      aΔ_small = le_trans (aΔ_size h i) (lit≤ tt)

  level_is : level_from d.free d.square e.free e.square ≡ level_of h
  unfolding level_of
  level_is = rw (d_is, e_is)

pub overflow_mul-h : goal.overflow_mul-h
overflow_mul-h c = fits w64 (search (formSizes, sizes) depth 60 fits 9999) tt

pub from_parts-requires : goal.from_parts-requires
from_parts-requires c =
    let d_is : c.split.result ≡ split_of (D c.args.curve.h) =
    c.split.ensures ∙ ap split_of (reads (search (formSizes, sizes) depth 60 fits 9999) tt refl) in
    let e_is : c.split-2.result ≡ split_of (c.args.curve.h.a *ℤ Δ c.args.curve.h) =
    c.split-2.ensures ∙ ap split_of (reads (search (formSizes, sizes) depth 60 fits 9999) tt refl) in
    parts_within c.args.curve.h d_is e_is c.args.curve.in_limit c.requires

pub returns : goal.returns
returns c =
    let d_is : c.split.result ≡ split_of (D c.args.curve.h) =
    c.split.ensures ∙ ap split_of (reads (search (formSizes, sizes) depth 60 fits 9999) tt refl) in
    let e_is : c.split-2.result ≡ split_of (c.args.curve.h.a *ℤ Δ c.args.curve.h) =
    c.split-2.ensures ∙ ap split_of (reads (search (formSizes, sizes) depth 60 fits 9999) tt refl) in
    c.from_parts.ensures ∙ level_is c.args.curve.h d_is e_is
