-- Choices by a test: by the two ways that it goes, what holds in both cases holds of the choice, and the choice is the case that the
-- test tells. Assumes nothing.
use mathlib.Core.Path.{◌≡◌, refl, sym, ap}
use mathlib.Core.Bool.{Bool, true, false, cond}

pub by_test : {P : Type 0} (t : Bool) → (t ≡ true → P) → (t ≡ false → P) → P
by_test true f g = f refl
by_test false f g = g refl

pub cond_cases : {A : Type 0} (P : A → Type 0) (b : Bool) {x y : A} → (b ≡ true → P x) → (b ≡ false → P y) → P (cond b x y)
cond_cases P true f g = f refl
cond_cases P false f g = g refl

pub when : {A : Type 0} {b : Bool} (x y : A) → b ≡ true → x ≡ cond b x y
when x y e = ap (λ b. cond b x y) (sym e)

pub unless : {A : Type 0} {b : Bool} (x y : A) → b ≡ false → y ≡ cond b x y
unless x y e = ap (λ b. cond b x y) (sym e)
