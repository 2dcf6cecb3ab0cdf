-- `solve::Curve::has_square_discriminant` meets its contract: −D is a square exactly if it is at least 0 and its size a square.
-- Assumes nothing.
use mathlib.Core.Path.{◌≡◌, refl, sym, ap, ◌∙◌}
use mathlib.Core.Bool.{Bool, true, false, true≢false}
use Prim.Native.Nat.{zero-le}
use lib.Dec.{T}
use lib.IntN.{ℤ, pos, negsuc, neg_ℤ, nat_abs, ◌-ℤ◌, +ℤ_idl}
use lib.Signed.{le_z}
use mir.Syntax.{w64}
use mir.Val.{to_z, of_z}
use borrow.Author.Tests.{le-leb}
use Rattle.whole.proofs.Signed.{sizes, fits, reads}
use Rattle.whole.proofs.SignedTests.{tests, Tested, tells}
use Rattle.number.specs.Square.{is_square}
use Rattle.conic.specs.Form.{D}
use Rattle.conic.proofs.Bounds.{formSizes}
use Rattle.solve.specs.Solve.{is_square_number}
use Rattle.solve.proofs.Curve.has_square_discriminant.Goals as goal

at_least_zero : (n : ℤ) → le_z (pos 0) n ≡ true → is_square (nat_abs n) ≡ is_square_number n
unfolding is_square_number
at_least_zero (pos n) e = refl
at_least_zero (negsuc n) e = absurd (true≢false (sym e))

below_zero : (n : ℤ) → le_z (pos 0) n ≡ false → le_z (pos 0) n ≡ is_square_number n
unfolding is_square_number
below_zero (pos n) e = absurd (true≢false (sym (le-leb 0 n zero-le) ∙ e))
below_zero (negsuc n) e = e

-- 0 − n is −n
turned : (n : ℤ) {b : Bool} → le_z (pos 0) (pos 0 -ℤ n) ≡ b → le_z (pos 0) (neg_ℤ n) ≡ b
turned n e = ap (le_z (pos 0)) (sym (+ℤ_idl (neg_ℤ n))) ∙ e

flag_is : {t b : Bool} (e : Tested t) → T e.room → e.value ≡ b → t ≡ b
flag_is e r p = e.same r ∙ p

pub overflow_sub-minus : goal.overflow_sub-minus
overflow_sub-minus c = fits w64 (search (formSizes, sizes) depth 60 fits 9999) tt

pub returns-then-minus-ge0 : goal.returns-then-minus-ge0
returns-then-minus-ge0 c =
    let h = c.args.self.h in
    let told : le_z (pos 0) (pos 0 -ℤ D h) ≡ true =
    tells (search (formSizes, tests) depth 60 fits 9999) tt c.if-minus-ge0.true in
    let minus_is : to_z w64 (of_z w64 (pos 0 -ℤ to_z w64 (of_z w64 c.discriminant-minus.result))) ≡ neg_ℤ (D h) =
    reads (search (formSizes, sizes) depth 60 fits 9999) tt refl ∙ +ℤ_idl (neg_ℤ (D h)) in
    c.is_square.ensures
    ∙ ap is_square (c.magnitude.ensures ∙ ap nat_abs minus_is)
    ∙ at_least_zero (neg_ℤ (D h)) (turned (D h) told)

pub returns-else-minus-ge0 : goal.returns-else-minus-ge0
returns-else-minus-ge0 c =
    let h = c.args.self.h in
    let told : le_z (pos 0) (pos 0 -ℤ D h) ≡ false =
    tells (search (formSizes, tests) depth 60 fits 9999) tt c.if-minus-ge0.false in
    flag_is (search (formSizes, tests) depth 60 fits 9999) tt told
    ∙ sym (turned (D h) told)
    ∙ below_zero (neg_ℤ (D h)) (turned (D h) told)
