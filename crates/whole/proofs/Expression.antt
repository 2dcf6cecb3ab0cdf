-- Expressions in a list of numbers: what they are, their normal form as polynomials, and that the normal form has the expression's value.
-- Each step is a law of `Polynomial`; the products ask that the degree stays below 256.
-- Assumes nothing.
use mathlib.Core.Path.{◌≡◌, refl, ◌∙◌, ap, ap₂}
use mathlib.Core.List.{List, [], ◌∷◌}
use Prim.Native.Nat.{ℕ, zero, suc, ◌+◌, ◌/◌, ◌%◌, ◌^◌, ◌<◌, max}
use native.Mathlib.Nat.{le_refl, pow-suc, le-max_left, le-max_right}
use native.Mathlib.Omega.{arith}
use lib.IntN.{ℤ, pos, neg_ℤ, ◌+ℤ◌, ◌*ℤ◌, pow, +ℤ_idr, *ℤ-one}
use Rattle.whole.proofs.Laws.{one-*ℤ}
use Rattle.whole.proofs.Polynomial.{Polynomial, none, term, add, negate, multiply, monomial, value, Small, Within, monomial_zero, small_zero, value_add, within_add, within_more, value_negate, within_negate, value_multiply, within_multiply}

-- the number at a place of the list, and 1 beyond its end
abbrev pub at : List ℤ → ℕ → ℤ
at [] i = pos 1
at (x ∷ ρ) zero = x
at (x ∷ ρ) (suc i) = at ρ i

-- x is an expression in the numbers ρ
pub data Reads (ρ : List ℤ) : ℤ → Type 0 where
  sum : {x y : ℤ} → Reads ρ x → Reads ρ y → Reads ρ (x +ℤ y)
  product : {x y : ℤ} → Reads ρ x → Reads ρ y → Reads ρ (x *ℤ y)
  negation : {x : ℤ} → Reads ρ x → Reads ρ (neg_ℤ x)
  letter : {x : ℤ} (i : ℕ) → at ρ i ≡ x → Reads ρ x
  constant : (c : ℤ) → Reads ρ c

pub data Equation (ρ : List ℤ) (x y : ℤ) : Type 0 where
  equation : Reads ρ x → Reads ρ y → Equation ρ x y

abbrev pub normal : {ρ : List ℤ} {x : ℤ} → Reads ρ x → Polynomial
normal (sum r s) = add (normal r) (normal s)
normal (product r s) = multiply (normal r) (normal s)
normal (negation r) = negate (normal r)
normal (letter i e) = term (256 ^ i) (pos 1) none
normal (constant c) = term 0 c none

abbrev pub degree : {ρ : List ℤ} {x : ℤ} → Reads ρ x → ℕ
degree (sum r s) = max (degree r) (degree s)
degree (product r s) = degree r + degree s
degree (negation r) = degree r
degree (letter i e) = 1
degree (constant c) = 0

-- ---- the letter at place i is the monomial 256 ^ i

last_digit : (i : ℕ) → 256 ^ suc i % 256 ≡ 0
last_digit i = rw (pow-suc 256 i) (omega arith)

other_digits : (i : ℕ) → 256 ^ suc i / 256 ≡ 256 ^ i
other_digits i = rw (pow-suc 256 i) (omega arith)

monomial_letter : (ρ : List ℤ) (i : ℕ) → monomial ρ (256 ^ i) ≡ at ρ i
unfolding pow lib.IntN.one
monomial_letter [] i = refl
monomial_letter (x ∷ ρ) zero = ap₂ ◌*ℤ◌ (one-*ℤ x) (monomial_zero ρ) ∙ *ℤ-one x
monomial_letter (x ∷ ρ) (suc i) =
    ap₂ ◌*ℤ◌ (ap (pow x) (last_digit i)) (ap (monomial ρ) (other_digits i) ∙ monomial_letter ρ i) ∙ one-*ℤ (at ρ i)

small_letter : (ρ : List ℤ) (i : ℕ) → Small ρ 1 (256 ^ i)
small_letter [] i = tt
small_letter (x ∷ ρ) zero = (le_refl 1, small_zero ρ 1)
small_letter (x ∷ ρ) (suc i) = (rw (last_digit i) (omega arith), rw (other_digits i) (small_letter ρ i))

-- ---- the normal form has the expression's degree and value

pub within_normal : {ρ : List ℤ} {x : ℤ} (r : Reads ρ x) → degree r < 256 → Within ρ (degree r) (normal r)
within_normal {ρ} (sum r s) l =
    within_add ρ (max (degree r) (degree s)) (normal r) (normal s)
    (within_more ρ (normal r) (le-max_left (degree r) (degree s)) (within_normal r (omega arith)))
    (within_more ρ (normal s) (le-max_right (degree r) (degree s)) (within_normal s (omega arith)))
within_normal {ρ} (product r s) l =
    within_multiply ρ (degree r) (degree s) l (normal r) (normal s) (within_normal r (omega arith)) (within_normal s (omega arith))
within_normal {ρ} (negation r) l = within_negate ρ (degree r) (normal r) (within_normal r l)
within_normal {ρ} (letter i e) l = (small_letter ρ i, tt)
within_normal {ρ} (constant c) l = (small_zero ρ 0, tt)

pub value_normal : {ρ : List ℤ} {x : ℤ} (r : Reads ρ x) → degree r < 256 → value ρ (normal r) ≡ x
unfolding lib.IntN.one
value_normal {ρ} (sum r s) l =
    value_add ρ (normal r) (normal s) ∙ ap₂ ◌+ℤ◌ (value_normal r (omega arith)) (value_normal s (omega arith))
value_normal {ρ} (product r s) l =
    value_multiply ρ (degree r) (degree s) l (normal r) (normal s) (within_normal r (omega arith)) (within_normal s (omega arith))
    ∙ ap₂ ◌*ℤ◌ (value_normal r (omega arith)) (value_normal s (omega arith))
value_normal {ρ} (negation r) l = value_negate ρ (normal r) ∙ ap neg_ℤ (value_normal r l)
value_normal {ρ} (letter i e) l = +ℤ_idr (pos 1 *ℤ monomial ρ (256 ^ i)) ∙ one-*ℤ (monomial ρ (256 ^ i)) ∙ monomial_letter ρ i ∙ e
value_normal {ρ} (constant c) l = +ℤ_idr (c *ℤ monomial ρ 0) ∙ ap (λ (y : ℤ). c *ℤ y) (monomial_zero ρ) ∙ *ℤ-one c
