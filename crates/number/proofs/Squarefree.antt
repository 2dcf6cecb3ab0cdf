-- Laws of squarefree numbers. Divided by their greatest common divisor two numbers have no common factor; a square that divides a
-- product and has no factor in common with one part divides the other, and a squarefree part has no square to give. Assumes nothing.
use mathlib.Core.Path.{◌≡◌, refl, sym, ◌∙◌, ap, subst}
use mathlib.Core.Logic.{◌≢◌, ⊎_elim}
use Prim.Native.Nat.{ℕ, ◌*◌, ◌/◌, ◌∣◌, ◌<◌}
use native.Mathlib.Nat.{mul_assoc, mul_comm, mul-mul-mul_comm, mul-one, mul-pos, eq-zero-or-pos, dvd-zero, dvd_trans, dvd-mul_left, dvd-mul_right, dvd_of_mul-dvd-mul_left, mul-dvd-mul, mul-dvd-mul_right, eq-one_of_dvd-one}
use native.Mathlib.Omega.{arith}
use lib.IntN.{ℤ, pos, nat_abs, ◌*ℤ◌}
use Rattle.whole.proofs.Size.{nat_abs-*, nat_abs_positive}
use Rattle.number.specs.Divides.{◌∣ℤ◌}
use Rattle.number.specs.Gcd.{gcd_of, Coprime}
use Rattle.number.specs.Squarefree.{Squarefree}
use Rattle.number.proofs.Divides.{times_quotient, sizes_divide, divides_by_sizes}
use Rattle.number.proofs.Gcd.{gcd_divides_left, gcd_divides_right, both_zero_of_gcd_zero, quotients_coprime, coprime_of_common_divisors, coprime_common_divisor}
use Rattle.number.proofs.Bezout.{coprime_naturals, coprime_product, euclid_lemma_ℕ}

pub squarefree_not_zero : {n : ℤ} → Squarefree n → n ≢ pos 0
squarefree_not_zero free e =
    let two_is_one : ◌≡◌ {A = ℕ} 2 1 = (subst Squarefree e free).no_square 2 (dvd-zero 4) in
    omega arith

pub squarefree_positive : {n : ℤ} → Squarefree n → 0 < nat_abs n
squarefree_positive free = nat_abs_positive (squarefree_not_zero free)

pub one_squarefree : Squarefree (pos 1)
one_squarefree = record { no_square = λ d h. eq-one_of_dvd-one (dvd_trans d (dvd-mul_right d d) h) }

-- only the size counts
pub squarefree_same_size : {a b : ℤ} → nat_abs a ≡ nat_abs b → Squarefree a → Squarefree b
squarefree_same_size e free = record { no_square = λ d h. free.no_square d (rw e h) }

pub squarefree_divisor : {a b : ℤ} → nat_abs a ∣ nat_abs b → Squarefree b → Squarefree a
squarefree_divisor h free = record { no_square = λ d k. free.no_square d (dvd_trans (d * d) k h) }

-- ---- where a square divides a product
-- a square that has no factor in common with b, and divides b·c, divides c
square_divides_cofactor : (k b c : ℕ) → gcd_of k b ≡ 1 → k * k ∣ b * c → k * k ∣ c
square_divides_cofactor k b c apart h =
    euclid_lemma_ℕ (k * k) b c (coprime_product (coprime_naturals k b apart) (coprime_naturals k b apart)).gcd_is_one h

-- a ∣ b, if dividing both by their greatest common divisor leaves 1 of a
divides_by_cofactor : (a b : ℕ) → ((g k m : ℕ) → 0 < g → a ≡ g * k → b ≡ g * m → gcd_of k m ≡ 1 → k ≡ 1) → a ∣ b
divides_by_cofactor a b left-is-one = ⊎_elim both_zero common_positive (eq-zero-or-pos (gcd_of a b))
  where
    both_zero : gcd_of a b ≡ 0 → a ∣ b
    both_zero e = rw (both_zero_of_gcd_zero e).1 (dvd-zero a)

    multiple : (g k m : ℕ) → a ≡ g * k → b ≡ g * m → k ≡ 1 → a ∣ b
    multiple g k m a_is b_is one =
        let a_is_common : a ≡ g = a_is ∙ ap (λ (x : ℕ). g * x) one ∙ mul-one g in
        rw (a_is_common, b_is) (dvd-mul_right g m)

    common_positive : 0 < gcd_of a b → a ∣ b
    common_positive p =
        let a_is : a ≡ gcd_of a b * (a / gcd_of a b) = times_quotient (gcd_of a b) (gcd_divides_left a b) in
        let b_is : b ≡ gcd_of a b * (b / gcd_of a b) = times_quotient (gcd_of a b) (gcd_divides_right a b) in
        multiple (gcd_of a b) (a / gcd_of a b) (b / gcd_of a b) a_is b_is
        (left-is-one (gcd_of a b) (a / gcd_of a b) (b / gcd_of a b) p a_is b_is (quotients_coprime a b p))

-- c squarefree, k² ∣ c·z² ⟹ k ∣ z
pub root_divides_root : {c : ℕ} (k z : ℕ) → Squarefree (pos c) → k * k ∣ c * (z * z) → k ∣ z
root_divides_root {c} k z free h =
    divides_by_cofactor k z
    (λ g l m p k-is z-is apart. free.no_square l (square_of_left g l m p apart (rw (k-is, z-is) at h)))
  where
    square_of_left : (g l m : ℕ) → 0 < g → gcd_of l m ≡ 1 → (g * l) * (g * l) ∣ c * ((g * m) * (g * m)) → l * l ∣ c
    square_of_left g l m p apart h =
        let common_out : (g * g) * (l * l) ∣ (g * g) * (m * (m * c)) =
        rw (mul-mul-mul_comm g l g l, mul-mul-mul_comm g m g m, mul_comm c (g * g * (m * m)), mul_assoc (g * g) (m * m) c, mul_assoc m m c) at h in
        square_divides_cofactor l m c apart
        (square_divides_cofactor l m (m * c) apart (dvd_of_mul-dvd-mul_left (l * l) (mul-pos p p) common_out))

pub root_divides_root_ℤ : {c : ℤ} (k z : ℤ) → Squarefree c → (k *ℤ k) ∣ℤ (c *ℤ (z *ℤ z)) → k ∣ℤ z
root_divides_root_ℤ {c} k z free h =
    divides_by_sizes k z
    (root_divides_root (nat_abs k) (nat_abs z) (squarefree_same_size refl free)
    (rw (← nat_abs-* z z, ← nat_abs-* c (z *ℤ z), ← nat_abs-* k k) (sizes_divide h)))

-- g squarefree, g ∣ b² ⟹ g ∣ b
pub squarefree_divides_root : {g : ℕ} (b : ℕ) → Squarefree (pos g) → g ∣ b * b → g ∣ b
squarefree_divides_root {g} b free h =
    divides_by_cofactor g b
    (λ f l m p g_is b_is apart. free.no_square l (rw g_is (square_of_left f l m p apart (rw (g_is, b_is) at h))))
  where
    square_of_left : (f l m : ℕ) → 0 < f → gcd_of l m ≡ 1 → f * l ∣ (f * m) * (f * m) → l * l ∣ f * l
    square_of_left f l m p apart h =
        let common_out : f * l ∣ f * (m * (m * f)) =
        rw (mul_assoc f m (f * m), mul_comm f m) at h in
        mul-dvd-mul_right l (euclid_lemma_ℕ l m f apart (euclid_lemma_ℕ l m (m * f) apart (dvd_of_mul-dvd-mul_left l p common_out))) l

-- squarefree numbers with no common factor have a squarefree product
product_on_ℕ : {a b : ℕ} → Coprime (pos a) (pos b) → Squarefree (pos a) → Squarefree (pos b) → Squarefree (pos (a * b))
product_on_ℕ {a} {b} apart left right = record { no_square = λ d h. left.no_square d (square_divides_left d h) }
  where
    square_of_left : (g l m : ℕ) → 0 < g → gcd_of l m ≡ 1 → (g * l) * (g * l) ∣ (g * m) * b → l * l ∣ b
    square_of_left g l m p l_apart h =
        let common_out : g * (g * (l * l)) ∣ g * (m * b) =
        rw (mul-mul-mul_comm g l g l, mul_assoc g g (l * l), mul_assoc g m b) at h in
        square_divides_cofactor l m b l_apart
        (dvd_trans (l * l) (dvd-mul_left (l * l) g) (dvd_of_mul-dvd-mul_left (g * (l * l)) p common_out))

    divides_left : (d : ℕ) → d * d ∣ a * b → d ∣ a
    divides_left d h =
        divides_by_cofactor d a
        (λ g l m p d_is a_is l_apart. right.no_square l (square_of_left g l m p l_apart (rw (d_is, a_is) at h)))

    no_factor_with_right : (d : ℕ) → d * d ∣ a * b → Coprime (pos d) (pos b)
    no_factor_with_right d h =
        coprime_of_common_divisors (λ e ed eb. coprime_common_divisor apart e (dvd_trans e ed (divides_left d h)) eb)

    square_divides_left : (d : ℕ) → d * d ∣ a * b → d * d ∣ a
    square_divides_left d h = square_divides_cofactor d b a (no_factor_with_right d h).gcd_is_one (rw (mul_comm a b) at h)

pub squarefree_product : {a b : ℤ} → Coprime a b → Squarefree a → Squarefree b → Squarefree (a *ℤ b)
squarefree_product {a} {b} apart left right =
    squarefree_same_size (sym (nat_abs-* a b))
    (product_on_ℕ
    (record { gcd_is_one = apart.gcd_is_one })
    (record { no_square = left.no_square })
    (record { no_square = right.no_square }))

-- a divisor of a squarefree number taken out: the rest is squarefree and has no factor in common with it
pub record TakenOut (l m : ℕ) : Type 0 where
  pub rest : ℕ
  pub product : m ≡ l * rest
  pub rest_squarefree : Squarefree (pos rest)
  pub coprime : Coprime (pos l) (pos rest)

pub take_out : (l m : ℕ) → l ∣ m → Squarefree (pos m) → TakenOut l m
take_out l m h free = go (m / l) (times_quotient l h)
  where
    go : (q : ℕ) → m ≡ l * q → TakenOut l m
    go q product =
        record {
          rest = q;
          product = product;
          rest_squarefree = squarefree_divisor (rw product (dvd-mul_left q l)) free;
          coprime = coprime_of_common_divisors (λ d dl dq. free.no_square d (rw product (mul-dvd-mul d d dl dq)));
        }
