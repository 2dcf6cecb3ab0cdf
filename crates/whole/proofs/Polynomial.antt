-- Polynomials over ℤ in a normal form that computes, and what their sums and products mean.
-- A monomial is one number, its exponents the digits in base 256; so a product of monomials is a sum, and their order the order of numbers.
-- Digits add up without a carry as long as degrees stay below 256. Assumes nothing.
use mathlib.Core.Path.{◌≡◌, refl, sym, ◌∙◌, ap, ap₂}
use mathlib.Core.List.{List, [], ◌∷◌}
use Prim.Native.Nat.{ℕ, ◌+◌, ◌/◌, ◌%◌, ◌<◌, ◌≤◌, compare, Ordering}
use native.Mathlib.Nat.{le_trans}
use native.Mathlib.Omega.{arith}
use lib.Dec.{eqb→eq}
use lib.IntN.{ℤ, pos, neg_ℤ, ◌+ℤ◌, ◌*ℤ◌, pow, +ℤ_idl, +ℤ_assoc, neg_ℤ-+ℤ, zero-*ℤ, *ℤ-zero}
use Rattle.whole.proofs.Laws.{one-*ℤ, swap_first, swap_middle, *ℤ_distribʳ, *ℤ_distribˡ, negℤ-*ℤ, *ℤ_swap_middle, pow-+}

-- a sum of monomials with their coefficients, the monomials ascending
pub data Polynomial : Type 0 where
  none : Polynomial
  term : ℕ → ℤ → Polynomial → Polynomial

-- ---- the operations

-- the term c·m put into q, where k adds all that comes after it
abbrev pub weave : ℕ → ℤ → (Polynomial → Polynomial) → Polynomial → Polynomial
weave m c k none = term m c (k none)
weave m c k (term n d q) =
    elim (compare m n) [
      | Ordering.lt ↦ term m c (k (term n d q))
      | Ordering.eq ↦ term m (c +ℤ d) (k q)
      | Ordering.gt ↦ term n d (weave m c k q)
    ]

abbrev pub add : Polynomial → Polynomial → Polynomial
add none q = q
add (term m c p) q = weave m c (add p) q

abbrev pub negate : Polynomial → Polynomial
negate none = none
negate (term m c p) = term m (neg_ℤ c) (negate p)

-- the product with one term
abbrev pub shift : ℕ → ℤ → Polynomial → Polynomial
shift m c none = none
shift m c (term n d q) = term (m + n) (c *ℤ d) (shift m c q)

abbrev pub multiply : Polynomial → Polynomial → Polynomial
multiply none q = none
multiply (term m c p) q = add (shift m c q) (multiply p q)

-- ---- what they mean

-- the monomial's value at the numbers ρ
abbrev pub monomial : List ℤ → ℕ → ℤ
monomial [] m = pos 1
monomial (x ∷ ρ) m = pow x (m % 256) *ℤ monomial ρ (m / 256)

abbrev pub value : List ℤ → Polynomial → ℤ
value ρ none = pos 0
value ρ (term m c p) = c *ℤ monomial ρ m +ℤ value ρ p

-- every exponent of the monomial is at most d
abbrev pub Small : List ℤ → ℕ → ℕ → Type 0
Small [] d m = Unit {0}
Small (x ∷ ρ) d m = (m % 256 ≤ d) × Small ρ d (m / 256)

abbrev pub Within : List ℤ → ℕ → Polynomial → Type 0
Within ρ d none = Unit {0}
Within ρ d (term m c p) = Small ρ d m × Within ρ d p

-- ---- monomials

pub monomial_zero : (ρ : List ℤ) → monomial ρ 0 ≡ pos 1
unfolding pow lib.IntN.one
monomial_zero [] = refl
monomial_zero (x ∷ ρ) = one-*ℤ (monomial ρ 0) ∙ monomial_zero ρ

pub small_zero : (ρ : List ℤ) (d : ℕ) → Small ρ d 0
small_zero [] d = tt
small_zero (x ∷ ρ) d = (omega arith, small_zero ρ d)

small_more : (ρ : List ℤ) {d e : ℕ} (m : ℕ) → d ≤ e → Small ρ d m → Small ρ e m
small_more [] m h s = tt
small_more (x ∷ ρ) m h s = (le_trans s.0 h, small_more ρ (m / 256) h s.1)

last_digit : (m n : ℕ) → m % 256 + n % 256 < 256 → (m + n) % 256 ≡ m % 256 + n % 256
last_digit m n h = omega arith

other_digits : (m n : ℕ) → m % 256 + n % 256 < 256 → (m + n) / 256 ≡ m / 256 + n / 256
other_digits m n h = omega arith

no_carry : {i j d e : ℕ} → i ≤ d → j ≤ e → d + e < 256 → i + j < 256
no_carry h k l = omega arith

monomial-+ : (ρ : List ℤ) (d e m n : ℕ) → d + e < 256 → Small ρ d m → Small ρ e n → monomial ρ (m + n) ≡ monomial ρ m *ℤ monomial ρ n
monomial-+ [] d e m n l s t = refl
monomial-+ (x ∷ ρ) d e m n l s t =
    ap₂ ◌*ℤ◌ (ap (pow x) (last_digit m n c) ∙ pow-+ x (m % 256) (n % 256))
    (ap (monomial ρ) (other_digits m n c) ∙ monomial-+ ρ d e (m / 256) (n / 256) l s.1 t.1)
    ∙ *ℤ_swap_middle (pow x (m % 256)) (pow x (n % 256)) (monomial ρ (m / 256)) (monomial ρ (n / 256))
  where
    c : m % 256 + n % 256 < 256
    c = no_carry s.0 t.0 l

small-+ : (ρ : List ℤ) (d e m n : ℕ) → d + e < 256 → Small ρ d m → Small ρ e n → Small ρ (d + e) (m + n)
small-+ [] d e m n l s t = tt
small-+ (x ∷ ρ) d e m n l s t =
    (digit m n l s.0 t.0, rw (other_digits m n (no_carry s.0 t.0 l)) (small-+ ρ d e (m / 256) (n / 256) l s.1 t.1))
  where
    digit : (m n : ℕ) → d + e < 256 → m % 256 ≤ d → n % 256 ≤ e → (m + n) % 256 ≤ d + e
    digit m n l h k = omega arith

-- ---- sums

equal : (m n : ℕ) → compare m n ≡ Ordering.eq → m ≡ n
equal m n o = eqb→eq m n (rw o tt)

value_weave : (ρ : List ℤ) (m : ℕ) (c : ℤ) (k : Polynomial → Polynomial) (e : ℤ) → ((q : Polynomial) → value ρ (k q) ≡ e +ℤ value ρ q)
    → (q : Polynomial) → value ρ (weave m c k q) ≡ c *ℤ monomial ρ m +ℤ e +ℤ value ρ q
value_weave ρ m c k e h none = ap (λ (x : ℤ). c *ℤ monomial ρ m +ℤ x) (h none) ∙ sym (+ℤ_assoc (c *ℤ monomial ρ m) e (pos 0))
value_weave ρ m c k e h (term n d q) = by_order (compare m n) refl (value_weave ρ m c k e h q)
  where
    by_order : (o : Ordering) → compare m n ≡ o → value ρ (weave m c k q) ≡ c *ℤ monomial ρ m +ℤ e +ℤ value ρ q
        → value ρ (elim o [ Ordering.lt ↦ term m c (k (term n d q)) | Ordering.eq ↦ term m (c +ℤ d) (k q) | Ordering.gt ↦ term n d (weave m c k q) ])
        ≡ c *ℤ monomial ρ m +ℤ e +ℤ value ρ (term n d q)
    by_order Ordering.lt o r = ap (λ (x : ℤ). c *ℤ monomial ρ m +ℤ x) (h (term n d q)) ∙ sym (+ℤ_assoc (c *ℤ monomial ρ m) e (value ρ (term n d q)))
    by_order Ordering.eq o r =
        ap₂ ◌+ℤ◌ (*ℤ_distribʳ c d (monomial ρ m) ∙ ap (λ (x : ℕ). c *ℤ monomial ρ m +ℤ d *ℤ monomial ρ x) (equal m n o)) (h q)
        ∙ swap_middle (c *ℤ monomial ρ m) (d *ℤ monomial ρ n) e (value ρ q)
    by_order Ordering.gt o r = ap (λ (x : ℤ). d *ℤ monomial ρ n +ℤ x) r ∙ swap_first (d *ℤ monomial ρ n) (c *ℤ monomial ρ m +ℤ e) (value ρ q)

pub value_add : (ρ : List ℤ) (p q : Polynomial) → value ρ (add p q) ≡ value ρ p +ℤ value ρ q
value_add ρ none q = sym (+ℤ_idl (value ρ q))
value_add ρ (term m c p) q = value_weave ρ m c (add p) (value ρ p) (value_add ρ p) q

within_weave : (ρ : List ℤ) (d m : ℕ) (c : ℤ) (k : Polynomial → Polynomial) → Small ρ d m → ((q : Polynomial) → Within ρ d q → Within ρ d (k q))
    → (q : Polynomial) → Within ρ d q → Within ρ d (weave m c k q)
within_weave ρ d m c k s h none w = (s, h none tt)
within_weave ρ d m c k s h (term n b q) w = by_order (compare m n) (within_weave ρ d m c k s h q w.1)
  where
    by_order : (o : Ordering) → Within ρ d (weave m c k q)
        → Within ρ d (elim o [ Ordering.lt ↦ term m c (k (term n b q)) | Ordering.eq ↦ term m (c +ℤ b) (k q) | Ordering.gt ↦ term n b (weave m c k q) ])
    by_order Ordering.lt r = (s, h (term n b q) w)
    by_order Ordering.eq r = (s, h q w.1)
    by_order Ordering.gt r = (w.0, r)

pub within_add : (ρ : List ℤ) (d : ℕ) (p q : Polynomial) → Within ρ d p → Within ρ d q → Within ρ d (add p q)
within_add ρ d none q v w = w
within_add ρ d (term m c p) q v w = within_weave ρ d m c (add p) v.0 (λ r. within_add ρ d p r v.1) q w

pub within_more : (ρ : List ℤ) {d e : ℕ} (p : Polynomial) → d ≤ e → Within ρ d p → Within ρ e p
within_more ρ none h w = tt
within_more ρ (term m c p) h w = (small_more ρ m h w.0, within_more ρ p h w.1)

-- ---- negation

pub value_negate : (ρ : List ℤ) (p : Polynomial) → value ρ (negate p) ≡ neg_ℤ (value ρ p)
value_negate ρ none = refl
value_negate ρ (term m c p) = ap₂ ◌+ℤ◌ (negℤ-*ℤ c (monomial ρ m)) (value_negate ρ p) ∙ sym (neg_ℤ-+ℤ (c *ℤ monomial ρ m) (value ρ p))

pub within_negate : (ρ : List ℤ) (d : ℕ) (p : Polynomial) → Within ρ d p → Within ρ d (negate p)
within_negate ρ d none w = tt
within_negate ρ d (term m c p) w = (w.0, within_negate ρ d p w.1)

-- ---- products, of degrees d and e

module _ (ρ : List ℤ) (d e : ℕ) (l : d + e < 256) where
  value_shift : (m : ℕ) (c : ℤ) (q : Polynomial) → Small ρ d m → Within ρ e q → value ρ (shift m c q) ≡ c *ℤ monomial ρ m *ℤ value ρ q
  value_shift m c none s w = sym (*ℤ-zero (c *ℤ monomial ρ m))
  value_shift m c (term n b q) s w =
      ap₂ ◌+ℤ◌ (ap (λ (x : ℤ). c *ℤ b *ℤ x) (monomial-+ ρ d e m n l s w.0) ∙ *ℤ_swap_middle c b (monomial ρ m) (monomial ρ n))
      (value_shift m c q s w.1)
      ∙ sym (*ℤ_distribˡ (c *ℤ monomial ρ m) (b *ℤ monomial ρ n) (value ρ q))

  within_shift : (m : ℕ) (c : ℤ) (q : Polynomial) → Small ρ d m → Within ρ e q → Within ρ (d + e) (shift m c q)
  within_shift m c none s w = tt
  within_shift m c (term n b q) s w = (small-+ ρ d e m n l s w.0, within_shift m c q s w.1)

  pub value_multiply : (p q : Polynomial) → Within ρ d p → Within ρ e q → value ρ (multiply p q) ≡ value ρ p *ℤ value ρ q
  value_multiply none q v w = sym (zero-*ℤ (value ρ q))
  value_multiply (term m c p) q v w =
      value_add ρ (shift m c q) (multiply p q) ∙ ap₂ ◌+ℤ◌ (value_shift m c q v.0 w) (value_multiply p q v.1 w)
      ∙ sym (*ℤ_distribʳ (c *ℤ monomial ρ m) (value ρ p) (value ρ q))

  pub within_multiply : (p q : Polynomial) → Within ρ d p → Within ρ e q → Within ρ (d + e) (multiply p q)
  within_multiply none q v w = tt
  within_multiply (term m c p) q v w =
      within_add ρ (d + e) (shift m c q) (multiply p q) (within_shift m c q v.0 w) (within_multiply p q v.1 w)
