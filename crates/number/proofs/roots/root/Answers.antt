-- `number::roots::root` meets its contract: a power of two of half the length of n is not below the root, nor is a
-- step from such a guess, and a guess that is at most n / guess is not above the root. Assumes nothing.
use mathlib.Core.Path.{◌≡◌, sym, ap, subst, ◌∙◌}
use Prim.Native.Nat.{ℕ, zero, suc, ◌*◌, ◌^◌, ◌<◌}
use native.Mathlib.Nat.{lt_of_lt_of_le, le-suc, le-div_iff_mul-le}
use native.Mathlib.Omega.{arith}
use lib.Pow.{pow_pos, pow_mono}
use Rattle.number.specs.Square.{root_of}
use Rattle.number.proofs.Square.{square-≤, root_unique, root_of_square}
use Rattle.number.proofs.Newton.{half_length, power_above, shifted_one, step_not_below}
use Rattle.number.proofs.roots.root.Invariants.{NotBelow}
use Rattle.number.proofs.roots.root.Goals as goal

power_not_below : (n : ℕ) → n < 2 ^ 64 → NotBelow n (2 ^ half_length n)
power_not_below n h = (pow_pos (half_length n), pow_mono {j = 32} (omega arith), lt_of_lt_of_le (power_above n h) (square-≤ (le-suc (2 ^ half_length n))))

above_zero : (n guess : ℕ) → (n ≡ 0 → ⊥) → n < suc guess * suc guess → 0 < guess
above_zero n zero h l = absurd (h (omega arith))
above_zero n (suc k) h l = omega arith

pub returns-then-n-eq0 : goal.returns-then-n-eq0
returns-then-n-eq0 c = sym (ap root_of c.if-n-eq0.true ∙ root_of_square 0)

pub loop-guess-init : goal.loop-guess-init
loop-guess-init c =
    let n : ℕ = c.args.n in
    subst (NotBelow n) (sym (shifted_one (half_length n) (omega arith))) (power_not_below n (omega arith))

pub loop-guess-preserved : goal.loop-guess-preserved
loop-guess-preserved c =
    let n : ℕ = c.args.n in
    let not_below = step_not_below n c.loop-guess.guess c.loop-guess.invariant.0 in
    (above_zero n _ c.if-n-eq0.false not_below, omega arith, not_below)

pub returns : goal.returns
returns c =
    let inv = c.loop-guess.invariant in
    root_unique record { square_at_most = (le-div_iff_mul-le inv.0).0 c.loop-guess-test.false; next_square_above = inv.2 }
