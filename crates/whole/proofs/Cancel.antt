-- Products with a factor that is not 0: where such a product is 0 the other factor is, and two such factors give a product that is
-- not 0. Assumes nothing.
use mathlib.Core.Path.{◌≡◌}
use mathlib.Core.Logic.{◌≢◌, ⊎_elim}
use lib.IntN.{ℤ, pos, ◌*ℤ◌}
use Rattle.whole.proofs.Products.{zero_factor}

pub other_factor_zero : {a b : ℤ} → a ≢ pos 0 → a *ℤ b ≡ pos 0 → b ≡ pos 0
other_factor_zero {a} {b} f e = ⊎_elim (λ z. absurd (f z)) (λ z. z) (zero_factor a b e)

pub product_not_zero : {a b : ℤ} → a ≢ pos 0 → b ≢ pos 0 → a *ℤ b ≢ pos 0
product_not_zero f g e = g (other_factor_zero f e)
