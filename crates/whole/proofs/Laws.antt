-- ℤ is a commutative ring: what `lib.IntN` leaves out, the product's associativity, the two distributive laws and the laws of negation.
-- Each goes by successor and predecessor of the first operand, for which `lib.IntN` has the clauses.
-- Assumes nothing.
use mathlib.Core.Path.{◌≡◌, sym, ◌∙◌, ap, ap₂}
use Prim.Native.Nat.{ℕ, zero, suc, ◌+◌}
use native.Mathlib.Nat as NatL
use lib.IntN.{ℤ, pos, negsuc, suc_ℤ, pred_ℤ, neg_ℤ, ◌+ℤ◌, ◌-ℤ◌, ◌*ℤ◌, pow, suc_ℤ-+ℤ, pred_ℤ-+ℤ, +ℤ_idl, +ℤ_assoc, +ℤ_comm, +ℤ_invl, +ℤ-neg_ℤ_cancel, -ℤ-+ℤ_cancel, zero-*ℤ, *ℤ-one, *ℤ_comm, suc_ℤ-*ℤ, pred_ℤ-*ℤ}

pub one-*ℤ : (k : ℤ) → pos 1 *ℤ k ≡ k
unfolding lib.IntN.one
one-*ℤ k = *ℤ_comm (pos 1) k ∙ *ℤ-one k

-- sums regrouped
pub swap_last : (a b c : ℤ) → a +ℤ b +ℤ c ≡ a +ℤ c +ℤ b
swap_last a b c = +ℤ_assoc a b c ∙ ap (λ (x : ℤ). a +ℤ x) (+ℤ_comm b c) ∙ sym (+ℤ_assoc a c b)

pub swap_first : (a b c : ℤ) → a +ℤ (b +ℤ c) ≡ b +ℤ (a +ℤ c)
swap_first a b c = sym (+ℤ_assoc a b c) ∙ ap (λ (x : ℤ). x +ℤ c) (+ℤ_comm a b) ∙ +ℤ_assoc b a c

pub swap_middle : (a b c d : ℤ) → (a +ℤ b) +ℤ (c +ℤ d) ≡ (a +ℤ c) +ℤ (b +ℤ d)
swap_middle a b c d = +ℤ_assoc a b (c +ℤ d) ∙ ap (λ (x : ℤ). a +ℤ x) (swap_first b c d) ∙ sym (+ℤ_assoc a c (b +ℤ d))

pub +ℤ_cancel_right : (k : ℤ) {m n : ℤ} → m +ℤ k ≡ n +ℤ k → m ≡ n
+ℤ_cancel_right k {m} {n} h = sym (+ℤ-neg_ℤ_cancel m k) ∙ ap (λ (x : ℤ). x -ℤ k) h ∙ +ℤ-neg_ℤ_cancel n k

pub equal_of_difference : (x y : ℤ) → x -ℤ y ≡ pos 0 → x ≡ y
equal_of_difference x y h = sym (-ℤ-+ℤ_cancel x y) ∙ ap (λ (z : ℤ). z +ℤ y) h ∙ +ℤ_idl y

-- the product over a sum
up : (m b c : ℤ) → (m +ℤ b) *ℤ c ≡ m *ℤ c +ℤ b *ℤ c → (suc_ℤ m +ℤ b) *ℤ c ≡ suc_ℤ m *ℤ c +ℤ b *ℤ c
up m b c h =
    ap (λ (x : ℤ). x *ℤ c) (suc_ℤ-+ℤ m b) ∙ suc_ℤ-*ℤ (m +ℤ b) c ∙ ap (λ (x : ℤ). x +ℤ c) h ∙ swap_last (m *ℤ c) (b *ℤ c) c
    ∙ ap (λ (x : ℤ). x +ℤ b *ℤ c) (sym (suc_ℤ-*ℤ m c))

down : (m b c : ℤ) → (m +ℤ b) *ℤ c ≡ m *ℤ c +ℤ b *ℤ c → (pred_ℤ m +ℤ b) *ℤ c ≡ pred_ℤ m *ℤ c +ℤ b *ℤ c
down m b c h =
    ap (λ (x : ℤ). x *ℤ c) (pred_ℤ-+ℤ m b) ∙ pred_ℤ-*ℤ (m +ℤ b) c ∙ ap (λ (x : ℤ). x -ℤ c) h ∙ swap_last (m *ℤ c) (b *ℤ c) (neg_ℤ c)
    ∙ ap (λ (x : ℤ). x +ℤ b *ℤ c) (sym (pred_ℤ-*ℤ m c))

nothing : (b c : ℤ) → (pos zero +ℤ b) *ℤ c ≡ pos zero *ℤ c +ℤ b *ℤ c
nothing b c = ap (λ (x : ℤ). x *ℤ c) (+ℤ_idl b) ∙ sym (+ℤ_idl (b *ℤ c)) ∙ ap (λ (x : ℤ). x +ℤ b *ℤ c) (sym (zero-*ℤ c))

pub *ℤ_distribʳ : (a b c : ℤ) → (a +ℤ b) *ℤ c ≡ a *ℤ c +ℤ b *ℤ c
*ℤ_distribʳ (pos zero) b c = nothing b c
*ℤ_distribʳ (pos (suc n)) b c = up (pos n) b c (*ℤ_distribʳ (pos n) b c)
*ℤ_distribʳ (negsuc zero) b c = down (pos zero) b c (nothing b c)
*ℤ_distribʳ (negsuc (suc n)) b c = down (negsuc n) b c (*ℤ_distribʳ (negsuc n) b c)

pub *ℤ_distribˡ : (a b c : ℤ) → a *ℤ (b +ℤ c) ≡ a *ℤ b +ℤ a *ℤ c
*ℤ_distribˡ a b c = *ℤ_comm a (b +ℤ c) ∙ *ℤ_distribʳ b c a ∙ ap₂ ◌+ℤ◌ (*ℤ_comm b a) (*ℤ_comm c a)

-- negation
pub negℤ-*ℤ : (a b : ℤ) → neg_ℤ a *ℤ b ≡ neg_ℤ (a *ℤ b)
negℤ-*ℤ a b =
    +ℤ_cancel_right (a *ℤ b) (sym (*ℤ_distribʳ (neg_ℤ a) a b) ∙ ap (λ (x : ℤ). x *ℤ b) (+ℤ_invl a) ∙ zero-*ℤ b ∙ sym (+ℤ_invl (a *ℤ b)))

pub *ℤ_negℤ : (a b : ℤ) → a *ℤ neg_ℤ b ≡ neg_ℤ (a *ℤ b)
*ℤ_negℤ a b = *ℤ_comm a (neg_ℤ b) ∙ negℤ-*ℤ b a ∙ ap neg_ℤ (*ℤ_comm b a)

-- the product is associative
higher : (m b c : ℤ) → m *ℤ b *ℤ c ≡ m *ℤ (b *ℤ c) → suc_ℤ m *ℤ b *ℤ c ≡ suc_ℤ m *ℤ (b *ℤ c)
higher m b c h =
    ap (λ (x : ℤ). x *ℤ c) (suc_ℤ-*ℤ m b) ∙ *ℤ_distribʳ (m *ℤ b) b c ∙ ap (λ (x : ℤ). x +ℤ b *ℤ c) h ∙ sym (suc_ℤ-*ℤ m (b *ℤ c))

lower : (m b c : ℤ) → m *ℤ b *ℤ c ≡ m *ℤ (b *ℤ c) → pred_ℤ m *ℤ b *ℤ c ≡ pred_ℤ m *ℤ (b *ℤ c)
lower m b c h =
    ap (λ (x : ℤ). x *ℤ c) (pred_ℤ-*ℤ m b) ∙ *ℤ_distribʳ (m *ℤ b) (neg_ℤ b) c ∙ ap₂ ◌+ℤ◌ h (negℤ-*ℤ b c) ∙ sym (pred_ℤ-*ℤ m (b *ℤ c))

none_of : (b c : ℤ) → pos zero *ℤ b *ℤ c ≡ pos zero *ℤ (b *ℤ c)
none_of b c = ap (λ (x : ℤ). x *ℤ c) (zero-*ℤ b) ∙ zero-*ℤ c ∙ sym (zero-*ℤ (b *ℤ c))

pub *ℤ_assoc : (a b c : ℤ) → a *ℤ b *ℤ c ≡ a *ℤ (b *ℤ c)
*ℤ_assoc (pos zero) b c = none_of b c
*ℤ_assoc (pos (suc n)) b c = higher (pos n) b c (*ℤ_assoc (pos n) b c)
*ℤ_assoc (negsuc zero) b c = lower (pos zero) b c (none_of b c)
*ℤ_assoc (negsuc (suc n)) b c = lower (negsuc n) b c (*ℤ_assoc (negsuc n) b c)

pub *ℤ_swap_middle : (a b c d : ℤ) → (a *ℤ b) *ℤ (c *ℤ d) ≡ (a *ℤ c) *ℤ (b *ℤ d)
*ℤ_swap_middle a b c d =
    *ℤ_assoc a b (c *ℤ d)
    ∙ ap (λ (x : ℤ). a *ℤ x) (sym (*ℤ_assoc b c d) ∙ ap (λ (x : ℤ). x *ℤ d) (*ℤ_comm b c) ∙ *ℤ_assoc c b d)
    ∙ sym (*ℤ_assoc a c (b *ℤ d))

-- powers
pub pow-+ : (x : ℤ) (m n : ℕ) → pow x (m + n) ≡ pow x m *ℤ pow x n
unfolding pow
pow-+ x m zero = ap (pow x) (NatL.add-zero m) ∙ sym (*ℤ-one (pow x m))
pow-+ x m (suc n) = ap (pow x) (NatL.add-suc m n) ∙ ap (λ (y : ℤ). y *ℤ x) (pow-+ x m n) ∙ *ℤ_assoc (pow x m) (pow x n) x
