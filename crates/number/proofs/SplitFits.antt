-- The split of a number of 64 bits at its bits: the square is below 2⁶³, since no square is 2⁶³ itself, and the quotient by it, which
-- is no larger than the number, is the free part. Assumes nothing.
use mathlib.Core.Path.{◌≡◌, sym, ◌∙◌, ap, ap₂}
use Prim.Native.Nat.{ℕ, zero, suc, ◌*◌, ◌/◌, ◌^◌, ◌≤◌, ◌<◌, zero-le}
use native.Mathlib.Nat.{le_of_suc-le-suc, le_trans, div-le_self, mul-le-mul}
use native.Mathlib.Omega.{arith}
use lib.IntN.{ℤ, pos, negsuc, neg_ℤ}
use lib.Signed.{mag, quot_z, nat_abs-le}
use mir.Syntax.{w64}
use mir.Val.{SFits, to_z, of_z}
use mir.Facts.{to_z-of_z}
use mir.ValLaws.{sfits_le}
use Rattle.number.specs.Least.{first_from, least, greatest}
use Rattle.number.specs.Square.{root_of}
use Rattle.number.specs.Squarefree.{square_part, free_part}
use Rattle.number.specs.Split.{split_of}
use Rattle.number.proofs.Least.{le_of_not_above}
use Rattle.number.proofs.SquarefreeSplit.{square_part_squared_at_most}

pub zero_of_bits : {n : ℤ} → SFits w64 n → of_z w64 n ≡ 0 → n ≡ pos 0
zero_of_bits fits e = sym (to_z-of_z fits) ∙ ap (to_z w64) e

pub split_of_zero : {n : ℤ} → n ≡ pos 0 → record { free = pos 0; square = 0 } ≡ split_of n
unfolding free_part square_part greatest root_of least first_from
split_of_zero e = sym (ap split_of e)

-- 2⁶³ lies between the squares of 3037000499 and 3037000500
square_below : (s : ℕ) → s * s ≤ 2 ^ 63 → s * s < 2 ^ 63
square_below s h =
    let root_at_most : s ≤ 3037000499 = le_of_not_above (λ above. too_large (mul-le-mul above above)) in
    omega (arith, mul-le-mul root_at_most root_at_most)
  where
    too_large : 3037000500 * 3037000500 ≤ s * s → ⊥
    too_large l = omega arith

negation_at_most : {a : ℕ} (r : ℕ) → r ≤ suc a → mag (neg_ℤ (pos r)) ≤ a
negation_at_most zero h = zero-le
negation_at_most (suc r) h = le_of_suc-le-suc h

quotient_at_most : (n : ℤ) (k : ℕ) → mag (quot_z n (pos k)) ≤ mag n
quotient_at_most (pos a) k = div-le_self a k
quotient_at_most (negsuc a) k = negation_at_most (suc a / k) (div-le_self (suc a) k)

module _ {n : ℤ} {s : ℕ} (fits : SFits w64 n) (part : s ≡ square_part n) where
  pub square_fits : SFits w64 (pos (s * s))
  square_fits =
      record { sfits = square_below s (le_trans (rw part (square_part_squared_at_most n)) (nat_abs-le n fits.sfits)) }

  quotient_reads : quot_z (to_z w64 (of_z w64 n)) (to_z w64 (s * s)) ≡ quot_z n (pos (s * s))
  quotient_reads = ap₂ quot_z (to_z-of_z fits) (to_z-of_z square_fits)

  pub quotient_fits : SFits w64 (quot_z (to_z w64 (of_z w64 n)) (to_z w64 (s * s)))
  quotient_fits = rw quotient_reads (sfits_le (quotient_at_most n (s * s)) fits)

  free_part_reads : to_z w64 (of_z w64 (quot_z (to_z w64 (of_z w64 n)) (to_z w64 (s * s)))) ≡ free_part n
  unfolding free_part
  free_part_reads = to_z-of_z quotient_fits ∙ quotient_reads ∙ ap (λ (r : ℕ). quot_z n (pos (r * r))) part

  pub split_reads : record { free = to_z w64 (of_z w64 (quot_z (to_z w64 (of_z w64 n)) (to_z w64 (s * s)))); square = s } ≡ split_of n
  split_reads = λ i. record { free = free_part_reads i; square = part i }
