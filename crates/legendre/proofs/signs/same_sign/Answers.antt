-- `legendre::signs::same_sign` meets its contract: its ways are the three signs of the first number.
-- Assumes nothing.
use mathlib.Core.Path.{◌≡◌, ap, ◌∙◌}
use mathlib.Core.Bool.{true, false}
use lib.IntN.{ℤ, pos}
use lib.Signed.{lt_z}
use mir.Facts.{to_z-of_z}
use Rattle.whole.proofs.Signed.{ranges}
use Rattle.whole.proofs.SignedTests.{tests, tells}
use Rattle.legendre.proofs.SameSign.{same_above, same_below, same_zero}
use Rattle.legendre.proofs.signs.same_sign.Goals as goal

pub returns-then-a-gt0 : goal.returns-then-a-gt0
returns-then-a-gt0 c =
    let above : lt_z (pos 0) c.args.a ≡ true = tells (search (ranges, tests)) tt c.if-a-gt0.true in
    ap (lt_z (pos 0)) (to_z-of_z c.ranges.b) ∙ same_above c.args.a c.args.b above

pub returns-then-a-lt0 : goal.returns-then-a-lt0
returns-then-a-lt0 c =
    let not_above : lt_z (pos 0) c.args.a ≡ false = tells (search (ranges, tests)) tt c.if-a-gt0.false in
    let below : lt_z c.args.a (pos 0) ≡ true = tells (search (ranges, tests)) tt c.if-a-lt0.true in
    ap (λ (n : ℤ). lt_z n (pos 0)) (to_z-of_z c.ranges.b) ∙ same_below c.args.a c.args.b not_above below

pub returns-else-a-lt0 : goal.returns-else-a-lt0
returns-else-a-lt0 c =
    let not_above : lt_z (pos 0) c.args.a ≡ false = tells (search (ranges, tests)) tt c.if-a-gt0.false in
    let not_below : lt_z c.args.a (pos 0) ≡ false = tells (search (ranges, tests)) tt c.if-a-lt0.false in
    c.if-a-lt0.false ∙ same_zero c.args.a c.args.b not_above not_below
