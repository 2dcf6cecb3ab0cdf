-- That gcd_of is the greatest common divisor. Assumes nothing.
use Rattle.std.specs.Prelude.{◌≡◌, ℕ, ◌≤◌}
use Rattle.std.specs.Int.{◌∣◌}
use Rattle.number.specs.Gcd.{gcd_of}

-- g divides both, every common divisor divides g, and where a and b are not both 0 none is greater
pub record GreatestCommon (a b g : ℕ) : Type 0 where
  pub divides_left : g ∣ a
  pub divides_right : g ∣ b
  pub is_divided : (d : ℕ) → d ∣ a → d ∣ b → d ∣ g
  pub is_greatest : ¬ ((a ≡ 0) × (b ≡ 0)) → (d : ℕ) → d ∣ a → d ∣ b → d ≤ g

unfoldable pub GcdIsGreatest : Type 0
GcdIsGreatest = (a b : ℕ) → GreatestCommon a b (gcd_of a b)
