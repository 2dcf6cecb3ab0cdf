-- A signed number handed to a call is read back from its bits: what the call promises of the number read holds of the number itself,
-- since it fits. Assumes nothing.
use mathlib.Core.Path.{◌≡◌, ap, ap₂, ◌∙◌}
use mathlib.Core.Bool.{Bool, ◌&&◌, not}
use Prim.Native.Nat.{ℕ}
use lib.IntN.{ℤ, pos, nat_abs}
use lib.Signed.{lt_z}
use mir.Syntax.{w64}
use mir.Val.{SFits, to_z, of_z}
use mir.Facts.{to_z-of_z}
use borrow.Author.Rules.{sfits_of}
use Rattle.number.specs.Gcd.{gcd_of}
use Rattle.point.specs.Paper.{within, is_zero}

pub passed : {A : Type 0} (f : ℤ → A) {n : ℤ} {r : A} → SFits w64 n → r ≡ f (to_z w64 (of_z w64 n)) → r ≡ f n
passed f h e = e ∙ ap f (to_z-of_z h)

pub passed_within : (limit : ℕ) (n : ℤ) {r : Bool} → SFits w64 n → r ≡ within limit (to_z w64 (of_z w64 n)) → r ≡ within limit n
passed_within limit n = passed (within limit)

pub passed_zero : (n : ℤ) {r : Bool} → SFits w64 n → r ≡ is_zero (to_z w64 (of_z w64 n)) → r ≡ is_zero n
passed_zero n = passed is_zero

pub passed_size : (n : ℤ) {r : ℕ} → SFits w64 n → r ≡ nat_abs (to_z w64 (of_z w64 n)) → r ≡ nat_abs n
passed_size n = passed nat_abs

pub passed_gcd : (m n : ℕ) {a b r : ℕ} → r ≡ gcd_of a b → a ≡ m → b ≡ n → r ≡ gcd_of m n
passed_gcd m n e p q = e ∙ ap₂ gcd_of p q

-- for greatest common divisors of sizes
pub ruleset factors = (passed_gcd, passed_size, sfits_of)

pub passed_all :
    (limit : ℕ) (x y z : ℤ) {r : Bool} → SFits w64 x → SFits w64 y → SFits w64 z →
    r ≡ within limit (to_z w64 (of_z w64 x)) && within limit (to_z w64 (of_z w64 y)) && within limit (to_z w64 (of_z w64 z)) →
    r ≡ within limit x && within limit y && within limit z
passed_all limit x y z f g h e =
    e ∙ rw (to_z-of_z f, to_z-of_z g, to_z-of_z h)

pub positive_test : (m n : ℤ) → SFits w64 m → m ≡ n → lt_z (pos 0) (to_z w64 (of_z w64 m)) ≡ lt_z (pos 0) n
positive_test m n f e = ap (lt_z (pos 0)) (to_z-of_z f ∙ e)

pub both : (p q r s : Bool) → p ≡ r → q ≡ s → p && q ≡ r && s
both p q r s = ap₂ ◌&&◌

pub denied : (p q : Bool) → p ≡ q → not p ≡ not q
denied p q = ap not

pub ruleset tested = (passed_within, passed_zero, passed_all, positive_test, both, denied, sfits_of)
