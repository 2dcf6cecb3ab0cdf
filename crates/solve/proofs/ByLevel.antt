-- None by sign and none by a prime, told from p, g and q however D and aΔ are split: G has one sign exactly if p and q
-- are positive, and where they are not, a least failing prime rules out every verdict but itself. Assumes nothing.
use mathlib.Core.Path.{◌≡◌, refl, sym, ap, ◌∙◌}
use mathlib.Core.Logic.{◌≢◌, inl, inr, ◌↔◌}
use Prim.Native.Nat.{ℕ, ◌*◌, ◌≤◌, ◌<◌}
use native.Mathlib.Nat.{mul-pos, le_antisymm}
use native.Mathlib.Omega.{arith}
use lib.IntN.{ℤ, pos, ◌*ℤ◌, zero-*ℤ}
use lib.Signed.{clash_ℤ}
use Rattle.whole.proofs.Cancel.{product_not_zero}
use Rattle.whole.proofs.Order.{≤ℤ_of-<ℤ, ≢-of-<ℤ}
use Rattle.number.specs.Squarefree.{Squarefree}
use Rattle.number.proofs.Squarefree.{squarefree_not_zero}
use Rattle.legendre.specs.Answer.{LeastFailing}
use Rattle.legendre.specs.Equation.{OneSign, Positive}
use Rattle.legendre.specs.Theorems.{Legendre}
use Rattle.legendre.proofs.Legendre.{legendre}
use Rattle.point.specs.Paper.{Verdict, point, none_by_sign, none_by_prime, refusal}
use Rattle.conic.specs.Form.{Δ}
use Rattle.conic.specs.declared.conic.Conic.{Conic}
use Rattle.solve.specs.Demand2.{NonDegenerate, PointIsRight, OneSignEverywhere, SignExactly, LevelledBy, PrimeIsTrue, NeverRefused, SplitIsLevelled, SignByLevel, PrimeByLevel}
use Rattle.solve.specs.Solve.{solve_of}
use Rattle.solve.proofs.Demand2.{point_is_right, sign_exactly, prime_is_true}
use Rattle.solve.proofs.Levelling.{Levellable, positive_not_zero, g_positive, levelled, down}
use Rattle.solve.proofs.Refusals.{never_refused}
use Rattle.solve.proofs.Sign.{sign_iff}

-- of two least failing primes, either is at most the other
at_most : {p g q : ℤ} {l m : ℕ} → LeastFailing p g q l → LeastFailing p g q m → l ≤ m
at_most {l = l} {m = m} a b =
    let no : ¬ (m < l) = λ below. b.fails (a.none_smaller m below b.prime) in omega arith

module _ {h : Conic} {d₁ e₁ : ℤ} {s t : ℕ} {p g q : ℤ} (v : LevelledBy h d₁ e₁ s t p g q) where
  split_levellable : Levellable h
  split_levellable =
      record {
        a_not_zero = λ e. aΔ≢0 (ap (λ (n : ℤ). n *ℤ Δ h) e ∙ zero-*ℤ (Δ h));
        D-not-zero = λ e. not_zero v.squarefree_d₁ v.s_positive (cc);
        aΔ_not_zero = aΔ≢0;
      }
    where
      not_zero : {d : ℤ} {r : ℕ} → Squarefree d → 1 ≤ r → d *ℤ pos (r * r) ≢ pos 0
      not_zero free l = product_not_zero (squarefree_not_zero free) (positive_not_zero (mul-pos l l))

      aΔ≢0 : h.a *ℤ Δ h ≢ pos 0
      aΔ≢0 e = not_zero v.squarefree_e₁ v.t_positive (cc)

  both_positive : OneSign p g q → Positive p × Positive q
  both_positive (inl (p>0, g>0, q>0)) = (p>0, q>0)
  both_positive (inr (p<0, g<0, q<0)) = clash_ℤ g<0 (≤ℤ_of-<ℤ (g_positive v))

  everywhere_iff : OneSignEverywhere h ↔ (Positive p × Positive q)
  everywhere_iff = (
    λ one. both_positive ((sign_iff v split_levellable).1 one),
    λ (p>0, q>0). (sign_iff v split_levellable).0 (inl (p>0, g_positive v, q>0)),
  )

  -- a verdict, where p and q are not both positive and l is the least failing prime
  by_prime : {l : ℕ} → NonDegenerate h → ¬ (Positive p × Positive q) → LeastFailing p g q l →
      (w : Verdict) → solve_of h ≡ w → w ≡ none_by_prime l
  unfolding Legendre PointIsRight SignExactly PrimeIsTrue NeverRefused
  by_prime {l} ok mixed failing (point at) e =
      let right = point_is_right h at ok e in
      let solvable = down v at right.on (λ z-is. ≢-of-<ℤ right.in_plane (sym z-is)) in
      let not_one_sign : ¬ OneSign p g q = λ one. mixed (both_positive one) in
      absurd (failing.fails ((legendre p g q (levelled v) not_one_sign).0 solvable l failing.prime))
  by_prime ok mixed failing none_by_sign e = absurd (mixed (everywhere_iff.0 ((sign_exactly h ok).0 e)))
  by_prime ok mixed failing (none_by_prime m) e =
      let own = (prime_is_true h m ok e).1 _ _ _ _ _ _ _ v in
      ap none_by_prime (le_antisymm (at_most own failing) (at_most failing own))
  by_prime ok mixed failing (refusal n) e = absurd (never_refused h n ok e)

-- ---- the statements

pub split_is_levelled : SplitIsLevelled
unfolding SplitIsLevelled
split_is_levelled h d₁ e₁ s t p g q v = (levelled v, g_positive v)

pub sign_by_level : SignByLevel
unfolding SignByLevel SignExactly
sign_by_level h d₁ e₁ s t p g q ok v = (
  λ e. (everywhere_iff v).0 ((sign_exactly h ok).0 e),
  λ both. (sign_exactly h ok).1 ((everywhere_iff v).1 both),
)

pub prime_by_level : PrimeByLevel
unfolding PrimeByLevel PrimeIsTrue
prime_by_level h l d₁ e₁ s t p g q ok v = (
  λ e.
      let (no_sign, failing) = prime_is_true h l ok e in
      (λ both. no_sign ((everywhere_iff v).1 both), failing d₁ e₁ s t p g q v),
  λ (mixed, failing). by_prime v ok mixed failing (solve_of h) refl,
)
