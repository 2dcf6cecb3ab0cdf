-- The common factor of a point's three numbers, which divides each, and the first of z, x, y that is not 0: how both grow with a
-- multiple of the point, and that either is 0 at the zero vector alone. Assumes nothing.
use mathlib.Core.Path.{◌≡◌, refl, sym, ap, ap₂, ◌∙◌}
use mathlib.Core.Logic.{◌≢◌}
use Prim.Native.Nat.{ℕ, zero, suc, ◌*◌, ◌∣◌}
use native.Mathlib.Nat.{dvd_trans}
use lib.IntN.{ℤ, pos, negsuc, nat_abs, ◌*ℤ◌, ℤ_discrete, *ℤ-zero}
use Rattle.whole.proofs.Size.{nat_abs-*, nat_abs_zero, nat_abs_positive}
use Rattle.whole.proofs.Cancel.{product_not_zero}
use Rattle.number.specs.Gcd.{gcd_of}
use Rattle.number.proofs.Gcd.{gcd_divides_left, gcd_divides_right, gcd_scaled, both_zero_of_gcd_zero}
use Rattle.point.specs.Normal.{common_factor, or_else, leading}
use Rattle.point.specs.declared.Point.{Point}
use Rattle.point.proofs.Vector.{scaled, Zero}

-- ---- the common factor

pub factor_divides_x : (p : Point) → common_factor p ∣ nat_abs p.x
unfolding common_factor
factor_divides_x p = dvd_trans (common_factor p) (gcd_divides_left _ _) (gcd_divides_left _ _)

pub factor_divides_y : (p : Point) → common_factor p ∣ nat_abs p.y
unfolding common_factor
factor_divides_y p = dvd_trans (common_factor p) (gcd_divides_left _ _) (gcd_divides_right _ _)

pub factor_divides_z : (p : Point) → common_factor p ∣ nat_abs p.z
unfolding common_factor
factor_divides_z p = gcd_divides_right _ _

pub factor_scaled : (k : ℤ) (p : Point) → k ≢ pos 0 → common_factor (scaled k p) ≡ nat_abs k * common_factor p
unfolding common_factor
factor_scaled k p f =
    ap₂ gcd_of (ap₂ gcd_of (nat_abs-* k p.x) (nat_abs-* k p.y)) (nat_abs-* k p.z)
    ∙ ap (λ (g : ℕ). gcd_of g (nat_abs k * nat_abs p.z)) (gcd_scaled (nat_abs k) (nat_abs p.x) (nat_abs p.y) (nat_abs_positive f))
    ∙ gcd_scaled (nat_abs k) (gcd_of (nat_abs p.x) (nat_abs p.y)) (nat_abs p.z) (nat_abs_positive f)

pub zero_of_factor : (p : Point) → common_factor p ≡ 0 → Zero p
unfolding common_factor
zero_of_factor p e =
    let (f, c) = both_zero_of_gcd_zero e in
    let (a, b) = both_zero_of_gcd_zero f in
    (nat_abs_zero p.x a, nat_abs_zero p.y b, nat_abs_zero p.z c)

-- ---- the first number that is not 0

or_else_first : {m : ℤ} (n : ℤ) → m ≢ pos 0 → or_else m n ≡ m
unfolding or_else
or_else_first {m = pos zero} n f = absurd (f refl)
or_else_first {m = pos (suc m)} n f = refl
or_else_first {m = negsuc m} n f = refl

or_else_second : {m : ℤ} (n : ℤ) → m ≡ pos 0 → or_else m n ≡ n
unfolding or_else
or_else_second n e = ap (λ m. or_else m n) e

or_else_scaled : (k m n : ℤ) → k ≢ pos 0 → or_else (k *ℤ m) (k *ℤ n) ≡ k *ℤ or_else m n
or_else_scaled k m n f = pick (ℤ_discrete m (pos 0))
  where
    pick : Dec (m ≡ pos 0) → or_else (k *ℤ m) (k *ℤ n) ≡ k *ℤ or_else m n
    pick (yes e) =
        or_else_second (k *ℤ n) (ap (λ c. k *ℤ c) e ∙ *ℤ-zero k) ∙ ap (λ c. k *ℤ c) (sym (or_else_second n e))
    pick (no g) = or_else_first (k *ℤ n) (product_not_zero f g) ∙ ap (λ c. k *ℤ c) (sym (or_else_first n g))

or_else_zero : (m n : ℤ) → or_else m n ≡ pos 0 → (m ≡ pos 0) × (n ≡ pos 0)
or_else_zero m n e = pick (ℤ_discrete m (pos 0))
  where
    pick : Dec (m ≡ pos 0) → (m ≡ pos 0) × (n ≡ pos 0)
    pick (yes z) = (z, sym (or_else_second n z) ∙ e)
    pick (no f) = absurd (f (sym (or_else_first n f) ∙ e))

pub leading_scaled : (k : ℤ) (p : Point) → k ≢ pos 0 → leading (scaled k p) ≡ k *ℤ leading p
unfolding leading
leading_scaled k p f =
    ap (or_else (k *ℤ p.z)) (or_else_scaled k p.x p.y f) ∙ or_else_scaled k p.z (or_else p.x p.y) f

pub leading_of_zero : {p : Point} → Zero p → leading p ≡ pos 0
unfolding leading
leading_of_zero {p} (a, b, c) = or_else_second (or_else p.x p.y) c ∙ or_else_second p.y a ∙ b

pub zero_of_leading : (p : Point) → leading p ≡ pos 0 → Zero p
unfolding leading
zero_of_leading p e =
    let (c, f) = or_else_zero p.z (or_else p.x p.y) e in
    let (a, b) = or_else_zero p.x p.y f in
    (a, b, c)
