-- A common divisor divides gcd_of, which is 0 only where both numbers are 0, and elsewhere a divisor is at most what it
-- divides. Assumes nothing.
use native.Mathlib.Nat.{pos_of_ne-zero, le_of_dvd}
use Rattle.number.specs.Greatest.{GcdIsGreatest}
use Rattle.number.proofs.Gcd.{gcd_divides_left, gcd_divides_right, divides_gcd, both_zero_of_gcd_zero}

pub gcd_is_greatest : GcdIsGreatest
unfolding GcdIsGreatest
gcd_is_greatest a b =
    record {
      divides_left = gcd_divides_left a b;
      divides_right = gcd_divides_right a b;
      is_divided = λ d. divides_gcd d;
      is_greatest = λ not_both d h k.
          le_of_dvd (pos_of_ne-zero (λ e. not_both (both_zero_of_gcd_zero e))) (divides_gcd d h k);
    }
