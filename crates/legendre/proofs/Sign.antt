-- No solution where the three coefficients have one sign: with positive coefficients the form is a sum of terms that are not
-- negative, so at a zero of it each term is 0; negative ones are negated first. Assumes nothing.
use mathlib.Core.Path.{◌≡◌, refl, ap, subst₃, ◌∙◌}
use mathlib.Core.Logic.{inl, inr}
use Prim.Native.Nat.{ℕ, suc, ◌+◌, ◌*◌, ◌<◌}
use native.Mathlib.Nat.{zero-lt-suc, not-suc-le-zero}
use native.Mathlib.Omega.{arith}
use lib.Dec.{ltb→lt}
use lib.IntN.{ℤ, pos, negsuc, neg_ℤ, nat_abs}
use Rattle.legendre.specs.Equation.{Solvable, Positive, Negative}
use Rattle.legendre.specs.Theorems.{NoneBySign}
use Rattle.legendre.proofs.Patterns.{negated_solvable}
use Rattle.legendre.proofs.Sizes.{zero_square_term, form_of_sizes}

-- n is a positive number
record Size (n : ℤ) : Type 0 where
  size : ℕ
  positive : 0 < size
  is_size : pos size ≡ n

of_positive : (n : ℤ) → Positive n → Size n
of_positive (pos n) h = record { size = n; positive = ltb→lt 0 n h.lt; is_size = refl }
of_positive (negsuc n) h = absurd h.lt

of_negative : (n : ℤ) → Negative n → Size (neg_ℤ n)
of_negative (pos n) h = absurd (not-suc-le-zero (ltb→lt n 0 h.lt))
of_negative (negsuc n) h = record { size = suc n; positive = zero-lt-suc n; is_size = refl }

none_by_size : (a b c : ℕ) → 0 < a → 0 < b → 0 < c → ¬ Solvable (pos a) (pos b) (pos c)
none_by_size a b c a>0 b>0 c>0 s =
    s.solution.not_all_zero (
      zero_square_term a s.x a>0 (omega (arith, sum_is_zero)),
      zero_square_term b s.y b>0 (omega (arith, sum_is_zero)),
      zero_square_term c s.w c>0 (omega (arith, sum_is_zero)),
    )
  where
    sum_is_zero : a * (nat_abs s.x * nat_abs s.x) + b * (nat_abs s.y * nat_abs s.y) + c * (nat_abs s.w * nat_abs s.w) ≡ 0
    sum_is_zero = ap nat_abs (form_of_sizes (pos a) (pos b) (pos c) s.x s.y s.w ∙ s.solution.equation)

none_by_sizes : {p g q : ℤ} → Size p → Size g → Size q → ¬ Solvable p g q
none_by_sizes a b c =
    subst₃ (λ (p g q : ℤ). ¬ Solvable p g q) a.is_size b.is_size c.is_size
    (none_by_size a.size b.size c.size a.positive b.positive c.positive)

pub none_by_sign : NoneBySign
unfolding NoneBySign
none_by_sign p g q (inl h) s = none_by_sizes (of_positive p h.0) (of_positive g h.1) (of_positive q h.2) s
none_by_sign p g q (inr h) s = none_by_sizes (of_negative p h.0) (of_negative g h.1) (of_negative q h.2) (negated_solvable s)
