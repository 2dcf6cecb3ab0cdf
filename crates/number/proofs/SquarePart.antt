-- The square part of a product: a square taken out of m comes out of its square part as its root, and a squarefree number that has
-- no factor in common with m leaves it alone, both by the uniqueness of the split. Assumes nothing.
use mathlib.Core.Path.{◌≡◌, refl, sym, ◌∙◌, ap}
use mathlib.Core.Logic.{◌≢◌}
use Prim.Native.Nat.{ℕ, zero, suc, ◌*◌, ◌≤◌, ◌<◌}
use native.Mathlib.Nat.{mul_assoc, mul_left_comm, mul-mul-mul_comm, one-mul, mul-pos, le-mul_of_pos_right, le_trans, zero-lt-suc, dvd_trans, dvd-mul_right}
use native.Mathlib.Omega.{arith}
use lib.IntN.{pos, nat_abs}
use Rattle.number.specs.Gcd.{Coprime}
use Rattle.number.specs.Squarefree.{Squarefree, square_part, free_part}
use Rattle.number.proofs.Gcd.{coprime_of_common_divisors, coprime_common_divisor}
use Rattle.number.proofs.Squarefree.{one_squarefree, squarefree_product, squarefree_same_size}
use Rattle.number.proofs.SquarefreeSplit.{split_is, size_of_product, square_part_equals, square_part_of_zero, square_part_squared_at_most}

-- m ≡ free · s², s the square part of m
pub record Divided (m s : ℕ) : Type 0 where
  pub free : ℕ
  pub product : m ≡ free * (s * s)
  pub positive : 0 < s
  pub squarefree : Squarefree (pos free)

pub divided : (m : ℕ) → 0 < m → Divided m (square_part (pos m))
divided m p =
    record {
      free = nat_abs (free_part (pos m));
      product = size_of_product (free_part (pos m)) (square_part (pos m)) (split_is (pos m) not_zero).product;
      positive = (split_is (pos m) not_zero).root_positive;
      squarefree = squarefree_same_size refl (split_is (pos m) not_zero).squarefree;
    }
  where
    not_zero : pos m ≢ pos 0
    not_zero e = omega (arith, ap nat_abs e)

pub square_part_of_square : (r : ℕ) → square_part (pos (r * r)) ≡ r
square_part_of_square zero = square_part_of_zero
square_part_of_square (suc r) = square_part_equals 1 (suc r) (sym (one-mul (suc r * suc r))) (zero-lt-suc r) one_squarefree

pub square_part_at_most : (n : ℕ) → square_part (pos n) ≤ n
square_part_at_most n = le_trans (at_most_square (square_part (pos n))) (square_part_squared_at_most (pos n))
  where
    at_most_square : (s : ℕ) → s ≤ s * s
    at_most_square zero = omega arith
    at_most_square (suc s) = le-mul_of_pos_right (suc s) (zero-lt-suc s)

pub square_part_of_square_times : (k m : ℕ) → 0 < k → 0 < m → square_part (pos (k * k * m)) ≡ k * square_part (pos m)
square_part_of_square_times k m p q = go (divided m q)
  where
    go : {s : ℕ} → Divided m s → square_part (pos (k * k * m)) ≡ k * s
    go {s} e =
        square_part_equals e.free (k * s)
        (ap (λ (x : ℕ). k * k * x) e.product ∙ mul_left_comm (k * k) e.free (s * s) ∙ ap (λ (x : ℕ). e.free * x) (mul-mul-mul_comm k k s s))
        (mul-pos p e.positive)
        e.squarefree

pub square_part_of_squarefree_times : (c m : ℕ) → 0 < m → Squarefree (pos c) → Coprime (pos c) (pos m) → square_part (pos (c * m)) ≡ square_part (pos m)
square_part_of_squarefree_times c m q free apart = go (divided m q)
  where
    go : {s : ℕ} → Divided m s → square_part (pos (c * m)) ≡ s
    go {s} e =
        square_part_equals (c * e.free) s
        (ap (λ (x : ℕ). c * x) e.product ∙ sym (mul_assoc c e.free (s * s)))
        e.positive
        (squarefree_product
        (coprime_of_common_divisors (λ d dc df. coprime_common_divisor apart d dc (dvd_trans d df (rw e.product (dvd-mul_right e.free (s * s))))))
        free
        e.squarefree)
