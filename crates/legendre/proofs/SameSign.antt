-- A number is not both above and below 0, so that the first of two decides which part of `same_sign` can hold; and three numbers are of
-- one sign where the first two and the last two are. Assumes nothing.
use mathlib.Core.Path.{◌≡◌, refl, sym}
use mathlib.Core.Bool.{Bool, true, false, ◌&&◌, ◌||◌, and-true, and-false, or-false}
use native.Mathlib.Omega.{arith}
use borrow.Author.Tests.{le-ltb}
use lib.IntN.{ℤ, pos, negsuc}
use lib.Signed.{lt_z}
use Rattle.legendre.specs.Outcome.{is_one_sign}
use Rattle.legendre.specs.Search.{same_sign}

above_not_below : (n : ℤ) → lt_z (pos 0) n ≡ true → lt_z n (pos 0) ≡ false
above_not_below (pos n) e = le-ltb n 0 (omega arith)
above_not_below (negsuc n) e = sym e

module _ (a b : ℤ) where
  pub same_above : lt_z (pos 0) a ≡ true → lt_z (pos 0) b ≡ same_sign a b
  unfolding same_sign
  same_above e = sym (rw (e, above_not_below a e) (or-false (lt_z (pos 0) b)))

  pub same_below : lt_z (pos 0) a ≡ false → lt_z a (pos 0) ≡ true → lt_z b (pos 0) ≡ same_sign a b
  unfolding same_sign
  same_below none e = sym (rw (none, e))

  pub same_zero : lt_z (pos 0) a ≡ false → lt_z a (pos 0) ≡ false → false ≡ same_sign a b
  unfolding same_sign
  same_zero none e = sym (rw (none, e))

-- p and p' say that the first is above and below 0, and so on
two_pairs : (p p' g g' q q' : Bool) → (g ≡ true → g' ≡ false) → ((p && g || p' && g') && (g && q || g' && q')) ≡ (p && g && q || p' && g' && q')
two_pairs p p' true g' q q' apart = rw (apart refl) (simp (and-true, and-false, or-false))
two_pairs p p' false true q q' apart = simp (and-true, and-false)
two_pairs p p' false false q q' apart = simp and-false

pub one_sign_of_pairs : (p g q : ℤ) → (same_sign p g && same_sign g q) ≡ is_one_sign p g q
unfolding same_sign is_one_sign
one_sign_of_pairs p g q =
    two_pairs (lt_z (pos 0) p) (lt_z p (pos 0)) (lt_z (pos 0) g) (lt_z g (pos 0)) (lt_z (pos 0) q) (lt_z q (pos 0)) (above_not_below g)
