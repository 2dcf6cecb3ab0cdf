-- What the functions on machine numbers ask of their arguments: levelled coefficients whose product is at most 2⁶⁰ in size,
-- so that in the box each of pX², gY² and qW² is at most 2⁶⁰ too. Assumes nothing.
use Rattle.std.specs.Prelude.{ℕ, ◌*◌, ◌^◌, ◌≤◌, ◌<◌, ℤ, pos, nat_abs, ◌*ℤ◌}
use Rattle.legendre.specs.Equation.{Levelled}

pub record Reach (p g q : ℤ) : Type 0 where
  pub levelled : Levelled p g q
  pub small_p : nat_abs p < 2 ^ 32
  pub small_g : nat_abs g < 2 ^ 32
  pub small_q : nat_abs q < 2 ^ 32
  pub small : nat_abs (p *ℤ g *ℤ q) ≤ 2 ^ 60

-- a number whose divisors can be tried, their squares within 64 bits
pub record Triable (n : ℕ) : Type 0 where
  pub positive : 0 < n
  pub small : n < 2 ^ 32

-- a coefficient, with a product of two others
pub record Part (a b c : ℤ) : Type 0 where
  pub size : Triable (nat_abs a)
  pub product : nat_abs (b *ℤ c) ≤ 2 ^ 60

-- W in the box
pub record Row (p g : ℤ) (w : ℕ) : Type 0 where
  pub w_within : w * w ≤ nat_abs (p *ℤ g)

-- W and X in the box
pub record Place (p g q : ℤ) (w x : ℕ) : Type 0 where
  pub row : Row p g w
  pub x_within : x * x ≤ nat_abs (g *ℤ q)

-- pX² and qW² with each of their factors and products within 2⁶⁰
pub record Terms (p q : ℤ) (w x : ℕ) : Type 0 where
  pub x_square : x * x ≤ 2 ^ 60
  pub w_square : w * w ≤ 2 ^ 60
  pub x_term : nat_abs (p *ℤ pos (x * x)) ≤ 2 ^ 60
  pub w_term : nat_abs (q *ℤ pos (w * w)) ≤ 2 ^ 60
