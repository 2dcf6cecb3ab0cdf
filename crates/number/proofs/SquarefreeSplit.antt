-- The split of n ≠ 0 into d·s², d squarefree: it exists, since what is left of n by the greatest square has no square to give, and
-- it is unique, since each of two such roots divides the other. Assumes nothing.
use mathlib.Core.Path.{◌≡◌, refl, sym, ◌∙◌, ap}
use mathlib.Core.Logic.{◌≢◌}
use Prim.Native.Nat.{ℕ, ◌*◌, ◌∣◌, ◌≤◌, ◌<◌}
use native.Mathlib.Nat.{le_antisymm, le_trans, ne_of_gt, mul-pos, mul-mul-mul_comm, one-mul, le_of_mul-le-mul_right, le_of_dvd, pos_of_dvd_of_pos, one-dvd, dvd_trans, dvd_antisymm, dvd-mul_left, dvd-mul_right, mul-dvd-mul_right}
use native.Mathlib.Omega.{arith}
use lib.IntN.{ℤ, pos, nat_abs, ◌*ℤ◌, *ℤ_comm}
use lib.Signed.{quot_z}
use Rattle.number.specs.Divides.{divides}
use Rattle.number.specs.Least.{first_from, least, greatest}
use Rattle.number.specs.Square.{root_of}
use Rattle.number.specs.Squarefree.{Squarefree, square_part, free_part}
use Rattle.whole.proofs.Size.{nat_abs-*, nat_abs_positive}
use Rattle.whole.proofs.Products.{*ℤ_cancel}
use Rattle.whole.proofs.Quotient.{quot_exact}
use Rattle.number.proofs.Least.{greatest_at_most, greatest_holds, greatest_is_greatest}
use Rattle.number.proofs.Divides.{divides_iff}
use Rattle.number.proofs.Square.{root_is, at_most_root, square-≤}
use Rattle.number.proofs.Squarefree.{root_divides_root, squarefree_positive, squarefree_same_size}

pub record IsSplit (n d : ℤ) (s : ℕ) : Type 0 where
  pub product : n ≡ d *ℤ pos (s * s)
  pub root_positive : 0 < s
  pub squarefree : Squarefree d

-- ---- existence
pub square_part_is_greatest : (n : ℤ) (k : ℕ) → n ≢ pos 0 → k * k ∣ nat_abs n → k ≤ square_part n
unfolding square_part
square_part_is_greatest n k n≢0 h =
    greatest_is_greatest (λ s. divides (s * s) (nat_abs n))
    (at_most_root (nat_abs n) (le_of_dvd (nat_abs_positive n≢0) h))
    ((divides_iff (k * k)).1 h)

pub square_part_positive : (n : ℤ) → n ≢ pos 0 → 0 < square_part n
square_part_positive n n≢0 = square_part_is_greatest n 1 n≢0 (one-dvd (nat_abs n))

square_part_divides : (n : ℤ) → n ≢ pos 0 → square_part n * square_part n ∣ nat_abs n
unfolding square_part
square_part_divides n n≢0 =
    (divides_iff (square_part n * square_part n)).0
    (greatest_holds (λ s. divides (s * s) (nat_abs n)) (root_of (nat_abs n)) (square_part_positive n n≢0))

pub square_part_of_zero : square_part (pos 0) ≡ 0
unfolding square_part greatest root_of least first_from
square_part_of_zero = refl

pub square_part_squared_at_most : (n : ℤ) → square_part n * square_part n ≤ nat_abs n
unfolding square_part
square_part_squared_at_most n =
    le_trans
    (square-≤ (greatest_at_most (λ s. divides (s * s) (nat_abs n)) (root_of (nat_abs n))))
    (root_is (nat_abs n)).square_at_most

split_product : (n : ℤ) → n ≢ pos 0 → n ≡ free_part n *ℤ pos (square_part n * square_part n)
unfolding free_part
split_product n n≢0 =
    let square : ℤ = pos (square_part n * square_part n) in
    sym (*ℤ_comm (quot_z n square) square ∙ quot_exact n square (square_part_divides n n≢0))

pub size_of_product : {n : ℤ} (d : ℤ) (s : ℕ) → n ≡ d *ℤ pos (s * s) → nat_abs n ≡ nat_abs d * (s * s)
size_of_product d s e = ap nat_abs e ∙ nat_abs-* d (pos (s * s))

free_part_squarefree : (n : ℤ) → n ≢ pos 0 → Squarefree (free_part n)
free_part_squarefree n n≢0 = record { no_square = λ d h. le_antisymm (at_most_one d h) (at_least_one d h) }
  where
    size : nat_abs n ≡ nat_abs (free_part n) * (square_part n * square_part n)
    size = size_of_product (free_part n) (square_part n) (split_product n n≢0)

    larger_square : (d : ℕ) → d * d ∣ nat_abs (free_part n) → (d * square_part n) * (d * square_part n) ∣ nat_abs n
    larger_square d h =
        rw (size, mul-mul-mul_comm d (square_part n) d (square_part n))
        (mul-dvd-mul_right (d * d) h (square_part n * square_part n))

    at_most_one : (d : ℕ) → d * d ∣ nat_abs (free_part n) → d ≤ 1
    at_most_one d h =
        le_of_mul-le-mul_right
        (rw (one-mul (square_part n)) (square_part_is_greatest n (d * square_part n) n≢0 (larger_square d h)))
        (square_part_positive n n≢0)

    at_least_one : (d : ℕ) → d * d ∣ nat_abs (free_part n) → 0 < d
    at_least_one d h =
        pos_of_dvd_of_pos
        (dvd_trans d (dvd-mul_right d d) (dvd_trans (d * d) h (rw size (dvd-mul_right (nat_abs (free_part n)) (square_part n * square_part n)))))
        (nat_abs_positive n≢0)

pub split_is : (n : ℤ) → n ≢ pos 0 → IsSplit n (free_part n) (square_part n)
split_is n n≢0 =
    record {
      product = split_product n n≢0;
      root_positive = square_part_positive n n≢0;
      squarefree = free_part_squarefree n n≢0;
    }

-- ---- uniqueness
root_divides : {n d e : ℤ} {s t : ℕ} → IsSplit n d s → IsSplit n e t → s ∣ t
root_divides {n} {d} {e} {s} {t} p q =
    root_divides_root s t (squarefree_same_size refl q.squarefree)
    (rw (← size_of_product e t q.product, size_of_product d s p.product) (dvd-mul_left (s * s) (nat_abs d)))

pub split_unique : {n d e : ℤ} {s t : ℕ} → IsSplit n d s → IsSplit n e t → (d ≡ e) × (s ≡ t)
split_unique {n} {d} {e} {s} {t} p q = (same_factor, same_root)
  where
    same_root : s ≡ t
    same_root = dvd_antisymm (root_divides p q) (root_divides q p)

    square_not_zero : pos (s * s) ≢ pos 0
    square_not_zero e = ne_of_gt (mul-pos p.root_positive p.root_positive) (ap nat_abs e)

    same_factor : d ≡ e
    same_factor =
        *ℤ_cancel (pos (s * s)) square_not_zero
        (*ℤ_comm (pos (s * s)) d ∙ sym p.product ∙ q.product ∙ ap (λ (r : ℕ). e *ℤ pos (r * r)) (sym same_root) ∙ *ℤ_comm e (pos (s * s)))

pub split_equals : {n d : ℤ} {s : ℕ} → IsSplit n d s → (free_part n ≡ d) × (square_part n ≡ s)
split_equals {n} {d} {s} p = split_unique (split_is n not_zero) p
  where
    not_zero : n ≢ pos 0
    not_zero e =
        let size_zero : nat_abs d * (s * s) ≡ 0 = sym (size_of_product d s p.product) ∙ ap nat_abs e in
        let size_not_zero : 0 < nat_abs d * (s * s) =
        mul-pos (squarefree_positive p.squarefree) (mul-pos p.root_positive p.root_positive) in
        omega arith

pub square_part_equals : {m : ℕ} (f s : ℕ) → m ≡ f * (s * s) → 0 < s → Squarefree (pos f) → square_part (pos m) ≡ s
square_part_equals {m} f s e p free = (split_equals {d = pos f} (record { product = ap pos e; root_positive = p; squarefree = free })).1
