-- Products and sums of machine numbers that have no bound of their own: where the result is at most 2⁶² in size it
-- fits, and so does the negation of a product, and the machine's results are the numbers themselves. Assumes nothing.
use mathlib.Core.Path.{◌≡◌, ap, ap₂, ◌∙◌}
use Prim.Native.Nat.{◌^◌, ◌≤◌}
use lib.IntN.{ℤ, pos, neg_ℤ, nat_abs, ◌+ℤ◌, ◌*ℤ◌, ◌-ℤ◌, +ℤ_idl}
use mir.Syntax.{w64}
use mir.Val.{SFits, to_z, of_z}
use mir.Facts.{to_z-of_z}
use Rattle.whole.proofs.Signed.{fits, at_most}
use Rattle.whole.proofs.Size.{nat_abs_neg}

pub small_fits : {z : ℤ} → nat_abs z ≤ 2 ^ 62 → SFits w64 z
small_fits h = fits w64 (at_most (2 ^ 62) h) tt

-- z as the machine keeps it
abbrev pub kept : ℤ → ℤ
kept z = to_z w64 (of_z w64 z)

module _ {b c : ℤ} (b_fits : SFits w64 b) (c_fits : SFits w64 c) (small : nat_abs (b *ℤ c) ≤ 2 ^ 62) where
  same_product : kept b *ℤ kept c ≡ b *ℤ c
  same_product = ap₂ ◌*ℤ◌ (to_z-of_z b_fits) (to_z-of_z c_fits)

  pub product_fits : SFits w64 (kept b *ℤ kept c)
  product_fits = rw same_product (small_fits small)

  pub product_is : kept (kept b *ℤ kept c) ≡ b *ℤ c
  product_is = to_z-of_z product_fits ∙ same_product

  same_negation : pos 0 -ℤ kept (kept b *ℤ kept c) ≡ neg_ℤ (b *ℤ c)
  same_negation = ap (λ (z : ℤ). pos 0 -ℤ z) product_is ∙ +ℤ_idl (neg_ℤ (b *ℤ c))

  pub negation_fits : SFits w64 (pos 0 -ℤ kept (kept b *ℤ kept c))
  negation_fits = rw same_negation (small_fits (rw (nat_abs_neg (b *ℤ c)) small))

  pub negation_is : kept (pos 0 -ℤ kept (kept b *ℤ kept c)) ≡ neg_ℤ (b *ℤ c)
  negation_is = to_z-of_z negation_fits ∙ same_negation

-- a sum of two numbers that are known otherwise
module _ {a b m n : ℤ} (m_is : m ≡ a) (n_is : n ≡ b) (small : nat_abs (a +ℤ b) ≤ 2 ^ 62) where
  pub sum_fits : SFits w64 (m +ℤ n)
  sum_fits = rw (m_is, n_is) (small_fits small)

  pub sum_is : kept (m +ℤ n) ≡ a +ℤ b
  sum_is = to_z-of_z sum_fits ∙ ap₂ ◌+ℤ◌ m_is n_is
