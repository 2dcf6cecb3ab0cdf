-- What the machine's tests on signed numbers tell: a branch hands its arms an equation of the test's flag, or of the numbers'
-- bits, and these turn it into a fact of the whole numbers that the operands stand for (`Signed`). Assumes nothing.
use mathlib.Core.Path.{◌≡◌, sym, ap, ap₂, ◌∙◌, subst}
use mathlib.Core.Bool.{Bool, true, false, not, ◌&&◌}
use Prim.Native.Nat.{ℕ}
use lib.Dec.{T, ltb}
use lib.IntN.{ℤ, pos, nat_abs}
use lib.Signed.{◌≤ℤ◌, ◌<ℤ◌, lt_z, le_z, non_neg, lt_z_yes, lt_z_no, le_z_yes, yes_non_neg}
use lib.Ieee.Fits.{and_l, and_r}
use mir.Syntax.{Width, w8, w16, w32, w64, w128}
use mir.Val.{Fits, SFits, bits, hbits, to_z, of_z}
use mir.Facts.{to_z-of_z, Fits-nat_abs}
use Rattle.whole.proofs.Order.{<ℤ_by_not}
use Rattle.whole.proofs.Signed.{Sized, Stored, sizes}

pub record Tested (t : Bool) : Type 0 where
  pub value : Bool
  pub room : Bool
  pub same : T room → t ≡ value

abbrev pub test : (f : ℤ → ℤ → Bool) {a b : ℤ} → Sized a → Sized b → Tested (f a b)
test f d e = record { value = f d.value e.value; room = d.room && e.room; same = λ t. ap₂ f (d.same (and_l d.room _ t)) (e.same (and_r d.room _ t)) }

abbrev pub less_test : {a b : ℤ} → Sized a → Sized b → Tested (lt_z a b)
less_test d e = test lt_z d e

abbrev pub at_most_test : {a b : ℤ} → Sized a → Sized b → Tested (le_z a b)
at_most_test d e = test le_z d e

pub ruleset tests = (sizes, less_test, at_most_test)

-- ---- what a flag tells

pub tells : {t b : Bool} (e : Tested t) → T e.room → t ≡ b → e.value ≡ b
tells e r p = sym (e.same r) ∙ p

pub lt_z_true : {a b : ℤ} → lt_z a b ≡ true → a <ℤ b
lt_z_true p = lt_z_yes (subst T (sym p) tt)

pub lt_z_false : {a b : ℤ} → lt_z a b ≡ false → b ≤ℤ a
lt_z_false p = lt_z_no (subst (λ (t : Bool). T (not t)) (sym p) tt)

pub le_z_true : {a b : ℤ} → le_z a b ≡ true → a ≤ℤ b
le_z_true p = le_z_yes (subst T (sym p) tt)

pub le_z_false : {a b : ℤ} → le_z a b ≡ false → b <ℤ a
le_z_false p = <ℤ_by_not (λ h. subst T p h.le)

-- ---- equal bits and other bits

pub same_number : (w : Width) {m n : ℕ} (d : Stored w m) (e : Stored w n) → T (d.room && e.room) → m ≡ n → d.value ≡ e.value
same_number w d e t p = sym (d.same (and_l d.room _ t)) ∙ ap (to_z w) p ∙ e.same (and_r d.room _ t)

-- ---- a signed number cast to an unsigned one: m is not negative, which the number that it stands for says

pub not_negative : {m : ℤ} (e : Sized m) → T e.room → pos 0 ≤ℤ e.value → pos 0 ≤ℤ m
not_negative e t h = subst (λ (z : ℤ). pos 0 ≤ℤ z) (sym (e.same t)) h

half_below : (w : Width) → T (ltb (hbits w) (bits w))
half_below w8 = tt
half_below w16 = tt
half_below w32 = tt
half_below w64 = tt
half_below w128 = tt

pub cast_unsigned : {w : Width} {m : ℤ} → SFits w m → pos 0 ≤ℤ m → T (non_neg (to_z w (of_z w m))) × Fits w (nat_abs (to_z w (of_z w m)))
cast_unsigned {w} f h = rw (to_z-of_z f) (yes_non_neg h, Fits-nat_abs (half_below w) f)
