-- The levelled equation's answer, as the paper gives it: sign; else the least failing prime; else, of the box's solutions,
-- the one with the least W, then the least X. Every "least" is a search. Assumes nothing.
use Rattle.std.specs.Prelude.{Bool, ◌&&◌, ◌||◌, not, cond, Result, Ok, Err, ℕ, suc, max, eqb, ltb, ℤ, pos, neg_ℤ, nat_abs, ◌*ℤ◌}
use Rattle.std.specs.Int.Signed.{lt_z}
use Rattle.number.specs.Divides.{divides}
use Rattle.number.specs.Least.{least}
use Rattle.number.specs.Prime.{is_prime}
use Rattle.number.specs.Residue.{is_square_modulo}
use Rattle.number.specs.Square.{root_of}
use Rattle.legendre.specs.Equation.{form}
use Rattle.legendre.specs.declared.outcome.Triple.{Triple}
use Rattle.legendre.specs.declared.outcome.Reason.{Reason}
use Rattle.legendre.specs.declared.outcome.Reason.TheVariants.{Sign, Prime}

unfoldable pub is_one_sign : ℤ → ℤ → ℤ → Bool
is_one_sign p g q =
    (lt_z (pos 0) p && lt_z (pos 0) g && lt_z (pos 0) q) || (lt_z p (pos 0) && lt_z g (pos 0) && lt_z q (pos 0))

-- where l divides a, minus the product of the other two, b and c, is a square modulo l
unfoldable pub holds_for : ℕ → ℤ → ℤ → ℤ → Bool
holds_for l a b c = not (divides l (nat_abs a)) || is_square_modulo l (neg_ℤ (b *ℤ c))

-- l is a prime at which Legendre's condition fails
unfoldable pub fails_at : ℤ → ℤ → ℤ → ℕ → Bool
fails_at p g q l = not (holds_for l p g q && holds_for l g p q && holds_for l q p g) && is_prime l

-- no prime that divides one of the three reaches this
unfoldable pub prime_limit : ℤ → ℤ → ℤ → ℕ
prime_limit p g q = suc (max (nat_abs p) (max (nat_abs g) (nat_abs q)))

unfoldable pub least_failing : ℤ → ℤ → ℤ → ℕ
least_failing p g q = least (fails_at p g q) (prime_limit p g q)

-- the numbers from 0 up whose square is at most |ab|: there are this many
unfoldable pub side : ℤ → ℤ → ℕ
side a b = suc (root_of (nat_abs (a *ℤ b)))

-- (X, Y, W) solves the equation, and is not all 0
unfoldable pub solves : ℤ → ℤ → ℤ → ℕ → ℕ → ℕ → Bool
solves p g q w x y = eqb (nat_abs (form p g q (pos x) (pos y) (pos w))) 0 && not (eqb x 0 && eqb y 0 && eqb w 0)

unfoldable pub least_y : ℤ → ℤ → ℤ → ℕ → ℕ → ℕ
least_y p g q w x = least (solves p g q w x) (side p q)

unfoldable pub least_x : ℤ → ℤ → ℤ → ℕ → ℕ
least_x p g q w = least (λ x. ltb (least_y p g q w x) (side p q)) (side g q)

unfoldable pub least_w : ℤ → ℤ → ℤ → ℕ
least_w p g q = least (λ w. ltb (least_x p g q w) (side g q)) (side p g)

-- of the box's solutions, the least W, then the least X
unfoldable pub chosen : ℤ → ℤ → ℤ → Triple
chosen p g q =
    let w = least_w p g q in
    let x = least_x p g q w in
    record { x = x; y = least_y p g q w x; w = w }

unfoldable pub outcome_of : ℤ → ℤ → ℤ → Result Triple Reason
outcome_of p g q =
    cond (is_one_sign p g q)
    (Err Sign)
    (cond (ltb (least_failing p g q) (prime_limit p g q)) (Err (Prime (least_failing p g q))) (Ok (chosen p g q)))
