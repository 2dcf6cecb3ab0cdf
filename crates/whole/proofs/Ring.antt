-- The ring prover: an identity between whole numbers holds where its two sides, read as expressions in their letters, come to one
-- polynomial, which is a computed test. `search` reads them, since each form of an expression is a rule.
-- Assumes nothing.
use mathlib.Core.Path.{◌≡◌, refl, sym, ◌∙◌, ap, ap₂}
use mathlib.Core.Bool.{Bool, true, false, ◌&&◌}
use mathlib.Core.List.{List, ◌∷◌}
use Prim.Native.Nat.{ℕ, zero, suc, ◌+◌, ◌*◌}
use lib.Dec.{T, leb, ltb, ltb→lt}
use lib.IntN.{ℤ, pos, negsuc, neg_ℤ, ◌+ℤ◌, ◌-ℤ◌, zero-*ℤ}
use lib.Ieee.Fits.{and_l, and_r}
use Rattle.whole.proofs.Laws.{equal_of_difference}
use Rattle.whole.proofs.Polynomial.{Polynomial, none, term, add, negate, monomial, value, value_add, value_negate}
use Rattle.whole.proofs.Expression.{Reads, letter, sum, product, negation, constant, Equation, equation, normal, degree, value_normal}

-- ---- in use: an identity is one line, whose list names its letters, at most 24, in any order
--     square-of-sum : (a b : ℤ) → (a +ℤ b) *ℤ (a +ℤ b) ≡ a *ℤ a +ℤ pos 2 *ℤ a *ℤ b +ℤ b *ℤ b
--     square-of-sum a b = by-ring (a ∷ b ∷ []) (search reify depth 64 fits 9999) tt
-- A letter is any term, such as `q.a`, `pos n` or `f x`; `pos (m * n)` is read as a product of `pos m` and `pos n`.
-- A letter that the list leaves out: `search` says that it found no proof of an `Equation`. A false identity, or a degree of 256 or
-- more: `tt` is refused, `⊥` against `Unit`.

-- ---- reading an expression: a rule for each place of the list of letters

abbrev pub v0 : {x : ℤ} {ρ : List ℤ} → Reads (x ∷ ρ) x
v0 = letter 0 refl

abbrev pub v1 : {a x : ℤ} {ρ : List ℤ} → Reads (a ∷ x ∷ ρ) x
v1 = letter 1 refl

abbrev pub v2 : {a b x : ℤ} {ρ : List ℤ} → Reads (a ∷ b ∷ x ∷ ρ) x
v2 = letter 2 refl

abbrev pub v3 : {a b c x : ℤ} {ρ : List ℤ} → Reads (a ∷ b ∷ c ∷ x ∷ ρ) x
v3 = letter 3 refl

abbrev pub v4 : {a b c d x : ℤ} {ρ : List ℤ} → Reads (a ∷ b ∷ c ∷ d ∷ x ∷ ρ) x
v4 = letter 4 refl

abbrev pub v5 : {a b c d e x : ℤ} {ρ : List ℤ} → Reads (a ∷ b ∷ c ∷ d ∷ e ∷ x ∷ ρ) x
v5 = letter 5 refl

abbrev pub v6 : {a b c d e f x : ℤ} {ρ : List ℤ} → Reads (a ∷ b ∷ c ∷ d ∷ e ∷ f ∷ x ∷ ρ) x
v6 = letter 6 refl

abbrev pub v7 : {a b c d e f g x : ℤ} {ρ : List ℤ} → Reads (a ∷ b ∷ c ∷ d ∷ e ∷ f ∷ g ∷ x ∷ ρ) x
v7 = letter 7 refl

abbrev pub v8 : {a b c d e f g h x : ℤ} {ρ : List ℤ} → Reads (a ∷ b ∷ c ∷ d ∷ e ∷ f ∷ g ∷ h ∷ x ∷ ρ) x
v8 = letter 8 refl

abbrev pub v9 : {a b c d e f g h i x : ℤ} {ρ : List ℤ} → Reads (a ∷ b ∷ c ∷ d ∷ e ∷ f ∷ g ∷ h ∷ i ∷ x ∷ ρ) x
v9 = letter 9 refl

abbrev pub v10 : {a b c d e f g h i j x : ℤ} {ρ : List ℤ} → Reads (a ∷ b ∷ c ∷ d ∷ e ∷ f ∷ g ∷ h ∷ i ∷ j ∷ x ∷ ρ) x
v10 = letter 10 refl

abbrev pub v11 : {a b c d e f g h i j k x : ℤ} {ρ : List ℤ} → Reads (a ∷ b ∷ c ∷ d ∷ e ∷ f ∷ g ∷ h ∷ i ∷ j ∷ k ∷ x ∷ ρ) x
v11 = letter 11 refl

abbrev pub v12 : {a b c d e f g h i j k l x : ℤ} {ρ : List ℤ} → Reads (a ∷ b ∷ c ∷ d ∷ e ∷ f ∷ g ∷ h ∷ i ∷ j ∷ k ∷ l ∷ x ∷ ρ) x
v12 = letter 12 refl

abbrev pub v13 : {a b c d e f g h i j k l m x : ℤ} {ρ : List ℤ} → Reads (a ∷ b ∷ c ∷ d ∷ e ∷ f ∷ g ∷ h ∷ i ∷ j ∷ k ∷ l ∷ m ∷ x ∷ ρ) x
v13 = letter 13 refl

abbrev pub v14 : {a b c d e f g h i j k l m n x : ℤ} {ρ : List ℤ} → Reads (a ∷ b ∷ c ∷ d ∷ e ∷ f ∷ g ∷ h ∷ i ∷ j ∷ k ∷ l ∷ m ∷ n ∷ x ∷ ρ) x
v14 = letter 14 refl

abbrev pub v15 : {a b c d e f g h i j k l m n o x : ℤ} {ρ : List ℤ} → Reads (a ∷ b ∷ c ∷ d ∷ e ∷ f ∷ g ∷ h ∷ i ∷ j ∷ k ∷ l ∷ m ∷ n ∷ o ∷ x ∷ ρ) x
v15 = letter 15 refl

abbrev pub v16 : {a b c d e f g h i j k l m n o p x : ℤ} {ρ : List ℤ} → Reads (a ∷ b ∷ c ∷ d ∷ e ∷ f ∷ g ∷ h ∷ i ∷ j ∷ k ∷ l ∷ m ∷ n ∷ o ∷ p ∷ x ∷ ρ) x
v16 = letter 16 refl

abbrev pub v17 : {a b c d e f g h i j k l m n o p q x : ℤ} {ρ : List ℤ} → Reads (a ∷ b ∷ c ∷ d ∷ e ∷ f ∷ g ∷ h ∷ i ∷ j ∷ k ∷ l ∷ m ∷ n ∷ o ∷ p ∷ q ∷ x ∷ ρ) x
v17 = letter 17 refl

abbrev pub v18 : {a b c d e f g h i j k l m n o p q r x : ℤ} {ρ : List ℤ} → Reads (a ∷ b ∷ c ∷ d ∷ e ∷ f ∷ g ∷ h ∷ i ∷ j ∷ k ∷ l ∷ m ∷ n ∷ o ∷ p ∷ q ∷ r ∷ x ∷ ρ) x
v18 = letter 18 refl

abbrev pub v19 : {a b c d e f g h i j k l m n o p q r s x : ℤ} {ρ : List ℤ} → Reads (a ∷ b ∷ c ∷ d ∷ e ∷ f ∷ g ∷ h ∷ i ∷ j ∷ k ∷ l ∷ m ∷ n ∷ o ∷ p ∷ q ∷ r ∷ s ∷ x ∷ ρ) x
v19 = letter 19 refl

abbrev pub v20 : {a b c d e f g h i j k l m n o p q r s t x : ℤ} {ρ : List ℤ} → Reads (a ∷ b ∷ c ∷ d ∷ e ∷ f ∷ g ∷ h ∷ i ∷ j ∷ k ∷ l ∷ m ∷ n ∷ o ∷ p ∷ q ∷ r ∷ s ∷ t ∷ x ∷ ρ) x
v20 = letter 20 refl

abbrev pub v21 : {a b c d e f g h i j k l m n o p q r s t u x : ℤ} {ρ : List ℤ} → Reads (a ∷ b ∷ c ∷ d ∷ e ∷ f ∷ g ∷ h ∷ i ∷ j ∷ k ∷ l ∷ m ∷ n ∷ o ∷ p ∷ q ∷ r ∷ s ∷ t ∷ u ∷ x ∷ ρ) x
v21 = letter 21 refl

abbrev pub v22 : {a b c d e f g h i j k l m n o p q r s t u v x : ℤ} {ρ : List ℤ} → Reads (a ∷ b ∷ c ∷ d ∷ e ∷ f ∷ g ∷ h ∷ i ∷ j ∷ k ∷ l ∷ m ∷ n ∷ o ∷ p ∷ q ∷ r ∷ s ∷ t ∷ u ∷ v ∷ x ∷ ρ) x
v22 = letter 22 refl

abbrev pub v23 : {a b c d e f g h i j k l m n o p q r s t u v w x : ℤ} {ρ : List ℤ} → Reads (a ∷ b ∷ c ∷ d ∷ e ∷ f ∷ g ∷ h ∷ i ∷ j ∷ k ∷ l ∷ m ∷ n ∷ o ∷ p ∷ q ∷ r ∷ s ∷ t ∷ u ∷ v ∷ w ∷ x ∷ ρ) x
v23 = letter 23 refl

-- `pos` goes into sums and products of natural numbers, which antt computes to before they are read
abbrev pub natural_sum : {ρ : List ℤ} {m n : ℕ} → Reads ρ (pos m) → Reads ρ (pos n) → Reads ρ (pos (m + n))
natural_sum r s = sum r s

abbrev pub natural_product : {ρ : List ℤ} {m n : ℕ} → Reads ρ (pos m) → Reads ρ (pos n) → Reads ρ (pos (m * n))
natural_product r s = product r s

-- a literal: the test computes at no other number
abbrev pub literal : {ρ : List ℤ} {n : ℕ} → leb n n ≡ true → Reads ρ (pos n)
literal {n} e = constant (pos n)

abbrev pub negative_literal : {ρ : List ℤ} {n : ℕ} → leb n n ≡ true → Reads ρ (negsuc n)
negative_literal {n} e = constant (negsuc n)

pub ruleset reify = (equation, product, sum, negation, v0, v1, v2, v3, v4, v5, v6, v7, v8, v9, v10, v11, v12, v13, v14, v15, v16, v17, v18, v19, v20, v21, v22, v23, literal, negative_literal, natural_sum, natural_product)

-- ---- the test

abbrev pub is_zero_lem : ℤ → Bool
is_zero_lem (pos zero) = true
is_zero_lem (pos (suc n)) = false
is_zero_lem (negsuc n) = false

abbrev pub vanishes : Polynomial → Bool
vanishes none = true
vanishes (term m c p) = is_zero_lem c && vanishes p

-- both sides have a degree below 256, and their difference is the polynomial 0
abbrev pub holds : {ρ : List ℤ} {x y : ℤ} → Equation ρ x y → Bool
holds (equation l r) = ltb (degree l) 256 && ltb (degree r) 256 && vanishes (add (normal l) (negate (normal r)))

value_vanishes : (ρ : List ℤ) (p : Polynomial) → T (vanishes p) → value ρ p ≡ pos 0
value_vanishes ρ none t = refl
value_vanishes ρ (term m (pos zero) p) t = ap₂ ◌+ℤ◌ (zero-*ℤ (monomial ρ m)) (value_vanishes ρ p t)
value_vanishes ρ (term m (pos (suc n)) p) t = absurd t
value_vanishes ρ (term m (negsuc n) p) t = absurd t

pub by_ring : (ρ : List ℤ) {x y : ℤ} (q : Equation ρ x y) → T (holds q) → x ≡ y
by_ring ρ {x} {y} (equation l r) t = equal_of_difference x y (sym difference ∙ value_vanishes ρ rest (and_r degrees (vanishes rest) t))
  where
    rest : Polynomial
    rest = add (normal l) (negate (normal r))

    degrees : Bool
    degrees = ltb (degree l) 256 && ltb (degree r) 256

    small : T degrees
    small = and_l degrees (vanishes rest) t

    difference : value ρ rest ≡ x -ℤ y
    difference =
        value_add ρ (normal l) (negate (normal r))
        ∙ ap₂ ◌+ℤ◌ (value_normal l (ltb→lt (degree l) 256 (and_l (ltb (degree l) 256) _ small)))
        (value_negate ρ (normal r) ∙ ap neg_ℤ (value_normal r (ltb→lt (degree r) 256 (and_r (ltb (degree l) 256) _ small))))
