-- Linear combination: an equation follows from others by multiples of them, since both sides of each may be scaled and added.
-- From h : l₁ ≡ r₁ and i : l₂ ≡ r₂ with x − y = c·(l₁ − r₁) + d·(l₂ − r₂), `combine (c ⊠ h ⊞ d ⊠ i) (by_ring ..)` proves x ≡ y; a
-- wrong factor fails as a false identity does. Assumes nothing.
use mathlib.Core.Path.{◌≡◌, ◌∙◌, ap, ap₂}
use lib.IntN.{ℤ, ◌+ℤ◌, ◌*ℤ◌}
use Rattle.whole.proofs.Laws.{+ℤ_cancel_right}

infixl 6 ◌⊞◌
infixl 7 ◌⊠◌
-- two equations added
pub ◌⊞◌ : {k l m n : ℤ} → k ≡ l → m ≡ n → k +ℤ m ≡ l +ℤ n
h ⊞ i = ap₂ ◌+ℤ◌ h i

-- an equation multiplied
pub ◌⊠◌ : (c : ℤ) {m n : ℤ} → m ≡ n → c *ℤ m ≡ c *ℤ n
c ⊠ h = ap (λ (x : ℤ). c *ℤ x) h

pub combine : {l r x y : ℤ} → l ≡ r → x +ℤ r ≡ y +ℤ l → x ≡ y
combine {l} {x} h i = +ℤ_cancel_right l (ap (λ (z : ℤ). x +ℤ z) h ∙ i)
