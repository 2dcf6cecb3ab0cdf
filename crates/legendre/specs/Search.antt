-- What the searches of the levelled equation's answer find, step by step: the primes of one coefficient, and the places of
-- one row of the box. Assumes nothing.
use Rattle.std.specs.Prelude.{Bool, ◌&&◌, ◌||◌, not, cond, Option, Some, None, ℕ, suc, min, ◌<◌, ltb, ℤ, pos, nat_abs, neg_ℤ, ◌*ℤ◌}
use Rattle.std.specs.Int.Signed.{lt_z}
use Rattle.number.specs.Divides.{divides}
use Rattle.number.specs.Least.{least}
use Rattle.number.specs.Prime.{is_prime}
use Rattle.number.specs.Residue.{is_square_modulo}
use Rattle.legendre.specs.Equation.{BoxSolution}

-- the least number below n at which the test holds, if there is one
unfoldable pub least_below : (ℕ → Bool) → ℕ → Option ℕ
least_below test n = cond (ltb (least test n) n) (Some (least test n)) None

abbrev pub smaller_of : Option ℕ → Option ℕ → Option ℕ
smaller_of None found = found
smaller_of (Some l) None = Some l
smaller_of (Some l) (Some m) = Some (min l m)

unfoldable pub same_sign : ℤ → ℤ → Bool
same_sign a b = (lt_z (pos 0) a && lt_z (pos 0) b) || (lt_z a (pos 0) && lt_z b (pos 0))

-- l is a prime divisor of a, and n is no square modulo l
unfoldable pub fails : ℕ → ℤ → ℕ → Bool
fails a n l = (divides l a && not (is_square_modulo l n)) && is_prime l

-- the least prime of a at which the condition for a fails; b and c are the other two
abbrev pub failing_of : ℤ → ℤ → ℤ → Option ℕ
failing_of a b c = least_below (fails (nat_abs a) (neg_ℤ (b *ℤ c))) (suc (nat_abs a))

-- the Y of the box's solution with this W and X, or that there is none
abbrev pub HeightAt : ℤ → ℤ → ℤ → ℕ → ℕ → Option ℕ → Type 0
HeightAt p g q w x (Some y) = BoxSolution p g q x y w
HeightAt p g q w x None = (y : ℕ) → ¬ BoxSolution p g q x y w

-- of the box's solutions with this W the one with the least X, or that there is none
abbrev pub FirstInRow : ℤ → ℤ → ℤ → ℕ → Option (ℕ × ℕ) → Type 0
FirstInRow p g q w (Some (x, y)) = BoxSolution p g q x y w × ((a b : ℕ) → a < x → ¬ BoxSolution p g q a b w)
FirstInRow p g q w None = (a b : ℕ) → ¬ BoxSolution p g q a b w
