-- A number that is a square modulo every prime of a squarefree m is a square modulo m. Take one prime off m: the roots modulo the
-- prime and modulo the rest, which have no common factor, combine by Bézout to one root. Assumes nothing.
use mathlib.Core.Path.{◌≡◌, refl, sym, subst}
use mathlib.Core.List.{[], ◌∷◌}
use Prim.Native.Nat.{ℕ, zero, suc, ◌*◌, ◌<◌, ◌∣◌}
use native.Mathlib.Nat.{dvd-mul_left, dvd_trans, le_refl, mul-le-mul_right, not-suc-le-zero}
use native.Mathlib.Omega.{arith}
use lib.IntN.{ℤ, pos, ◌+ℤ◌, ◌*ℤ◌, ◌-ℤ◌}
use Rattle.whole.proofs.Ring.{by_ring, reify}
use Rattle.whole.proofs.Combination.{combine, ◌⊞◌, ◌⊠◌}
use Rattle.number.specs.Prime.{Prime}
use Rattle.number.specs.Gcd.{Coprime}
use Rattle.number.specs.Residue.{SquareModulo}
use Rattle.number.specs.Squarefree.{Squarefree}
use Rattle.number.proofs.Bezout.{Combines, coprime_combines}
use Rattle.number.proofs.Prime.{prime_divisor}
use Rattle.number.proofs.Squarefree.{TakenOut, take_out, squarefree_not_zero}
use Rattle.number.proofs.Residues.{square_modulo_one}

-- r² = n + xa, s² = n + yb, ua + vb = 1: the root sua + rvb
combined : (n a b r s x y u v : ℤ) → r *ℤ r -ℤ n ≡ x *ℤ a → s *ℤ s -ℤ n ≡ y *ℤ b → u *ℤ a +ℤ v *ℤ b ≡ pos 1 →
    (s *ℤ u *ℤ a +ℤ r *ℤ v *ℤ b) *ℤ (s *ℤ u *ℤ a +ℤ r *ℤ v *ℤ b) -ℤ n
    ≡ (y *ℤ u *ℤ u *ℤ a +ℤ x *ℤ v *ℤ v *ℤ b +ℤ pos 2 *ℤ u *ℤ v *ℤ (s *ℤ r -ℤ n)) *ℤ (a *ℤ b)
combined n a b r s x y u v left right one =
    combine (v *ℤ v *ℤ b *ℤ b ⊠ left ⊞ u *ℤ u *ℤ a *ℤ a ⊠ right ⊞ n *ℤ (u *ℤ a +ℤ v *ℤ b +ℤ pos 1) ⊠ one)
    (by_ring (n ∷ a ∷ b ∷ r ∷ s ∷ x ∷ y ∷ u ∷ v ∷ []) (search reify depth 64 fits 9999) tt)

pub square_modulo_product : {a b : ℕ} {n : ℤ} → Coprime (pos a) (pos b) → SquareModulo a n → SquareModulo b n → SquareModulo (a * b) n
square_modulo_product {a} {b} {n} apart left right =
    let one : Combines (pos a) (pos b) (pos 1) = coprime_combines apart in
    let r = left.root in
    let s = right.root in
    let x = left.is_root.quotient in
    let y = right.is_root.quotient in
    let u = one.left in
    let v = one.right in
    record {
      root = s *ℤ u *ℤ pos a +ℤ r *ℤ v *ℤ pos b;
      is_root = record {
        quotient = y *ℤ u *ℤ u *ℤ pos a +ℤ x *ℤ v *ℤ v *ℤ pos b +ℤ pos 2 *ℤ u *ℤ v *ℤ (s *ℤ r -ℤ n);
        multiple = combined n (pos a) (pos b) r s x y u v left.is_root.multiple right.is_root.multiple one.combination;
      };
    }

abbrev FromPrimes : ℤ → ℕ → Type 0
FromPrimes n m = Squarefree (pos m) → ((l : ℕ) → Prime l → l ∣ m → SquareModulo l n) → SquareModulo m n

-- a prime l of m taken out leaves a smaller number
add_prime : (n : ℤ) (l m : ℕ) → 0 < m → Prime l → l ∣ m → ((k : ℕ) → k < m → FromPrimes n k) → FromPrimes n m
add_prime n l m positive prime d smaller free each = go (take_out l m d free)
  where
    fewer : (k : ℕ) → m ≡ l * k → k < m
    fewer k product = omega (arith, mul-le-mul_right k prime.at_least_two)

    go : TakenOut l m → SquareModulo m n
    go t =
        let rest_divides : t.rest ∣ m = subst (λ (x : ℕ). t.rest ∣ x) (sym t.product) (dvd-mul_left t.rest l) in
        subst (λ (x : ℕ). SquareModulo x n) (sym t.product)
        (square_modulo_product t.coprime (each l prime d)
        (smaller t.rest (fewer t.rest t.product) t.rest_squarefree (λ j j-prime e. each j j-prime (dvd_trans j e rest_divides))))

from_primes : (n : ℤ) (fuel m : ℕ) → m < fuel → FromPrimes n m
from_primes n zero m h free each = absurd (not-suc-le-zero h)
from_primes n (suc fuel) zero h free each = absurd (squarefree_not_zero free refl)
from_primes n (suc fuel) (suc zero) h free each = square_modulo_one n
from_primes n (suc fuel) (suc (suc m)) h free each =
    go (prime_divisor (suc (suc m)) (omega arith)) (λ k l. from_primes n fuel k (omega arith))
  where
    go : (l : ℕ) × Prime l × (l ∣ suc (suc m)) → ((k : ℕ) → k < suc (suc m) → FromPrimes n k) → SquareModulo (suc (suc m)) n
    go (l, prime, d) smaller = add_prime n l (suc (suc m)) (omega arith) prime d smaller free each

pub square_modulo_squarefree : {m : ℕ} {n : ℤ} → Squarefree (pos m) → ((l : ℕ) → Prime l → l ∣ m → SquareModulo l n) → SquareModulo m n
square_modulo_squarefree {m} {n} free each = from_primes n (suc m) m (le_refl (suc m)) free each
