-- Squares modulo 64: the square of r leaves what the square of r's remainder leaves, so that a mask of 64 bits is tried at the 64
-- remainders, by computation. Assumes nothing.
use mathlib.Core.Path.{◌≡◌, sym, ap, ◌∙◌}
use mathlib.Core.Bool.{false}
use Prim.Native.Nat.{ℕ, ◌*◌, ◌/◌, ◌%◌, ◌^◌}
use native.Mathlib.Nat.{mod-lt, mod-mod}
use native.Mathlib.Omega.{arith}
use lib.Dec.{eqb}
use borrow.Author.Tests.{eq-eqb}
use Rattle.number.specs.Least.{least}
use Rattle.number.specs.Square.{is_square}
use Rattle.number.proofs.Least.{false_of_not_true, not_true_of_false, fails_below_bound}
use Rattle.number.proofs.Square.{square_law}
use Rattle.number.proofs.Modulo.{same_product}

square_remainder : (m r : ℕ) → r * r % m ≡ (r % m) * (r % m) % m
square_remainder m r = same_product m r (r % m) r (r % m) (sym (mod-mod r m)) (sym (mod-mod r m))

abbrev pub bit : ℕ → ℕ → ℕ
bit mask k = mask / 2 ^ k % 2

-- a mask that has the bit of every square's remainder refuses no square
pub no_square : (mask n : ℕ) → bit mask (n % 64) ≡ 0 → least (λ s. eqb (bit mask (s * s % 64)) 0) 64 ≡ 64 → is_square n ≡ false
no_square mask n none every =
    false_of_not_true λ square.
    let (r, e) = (square_law n).0 square in
    let same : n % 64 ≡ (r % 64) * (r % 64) % 64 = ap (λ (x : ℕ). x % 64) e ∙ square_remainder 64 r in
    not_true_of_false
    (fails_below_bound (λ s. eqb (bit mask (s * s % 64)) 0) every (r % 64) (mod-lt r (omega arith)))
    (eq-eqb _ 0 (sym (ap (bit mask) same) ∙ none))
