-- Congruent whole numbers: their difference is a multiple of the modulus. Products of congruent numbers are congruent, a number is
-- congruent to its remainder, and natural numbers are congruent exactly if they leave the same remainder. Assumes nothing.
use mathlib.Core.Path.{◌≡◌, sym, ap, ◌∙◌, subst}
use mathlib.Core.List.{[], ◌∷◌}
use Prim.Native.Nat.{ℕ, suc, ◌+◌, ◌-◌, ◌*◌, ◌/◌, ◌%◌, ◌<◌}
use native.Mathlib.Nat.{mod-add-div, mod-add-div', mod-lt, mod-mod, suc-mul, mul-add-mod_self_right}
use native.Mathlib.Omega.{arith}
use lib.IntN.{ℤ, pos, negsuc, neg_ℤ, nat_abs, ◌+ℤ◌, ◌-ℤ◌, ◌*ℤ◌}
use Rattle.whole.proofs.Ring.{by_ring, reify}
use Rattle.whole.proofs.Combination.{combine, ◌⊞◌, ◌⊠◌}
use Rattle.number.specs.Divides.{◌∣ℤ◌}
use Rattle.number.specs.Remainder.{remainder_of}
use Rattle.number.proofs.Divides.{∣ℤ_zero, ∣ℤ_sum, ∣ℤ_negation, ∣ℤ_times_left, ∣ℤ_times_right}

pub record Congruent (n a b : ℤ) : Type 0 where
  pub difference : n ∣ℤ (a -ℤ b)

by_difference : {n a b : ℤ} (x : ℤ) → x ≡ a -ℤ b → n ∣ℤ x → Congruent n a b
by_difference {n} x e h = record { difference = subst (λ (y : ℤ). n ∣ℤ y) e h }

pub congruent_refl : (n a : ℤ) → Congruent n a a
congruent_refl n a = by_difference (pos 0) (by_ring (a ∷ []) (search reify depth 64 fits 9999) tt) (∣ℤ_zero n)

pub congruent_of_equal : (n : ℤ) {a b : ℤ} → a ≡ b → Congruent n a b
congruent_of_equal n {a} e = subst (Congruent n a) e (congruent_refl n a)

pub congruent_sym : {n a b : ℤ} → Congruent n a b → Congruent n b a
congruent_sym {n} {a} {b} h =
    by_difference (neg_ℤ (a -ℤ b)) (by_ring (a ∷ b ∷ []) (search reify depth 64 fits 9999) tt) (∣ℤ_negation h.difference)

pub congruent_trans : {n a b c : ℤ} → Congruent n a b → Congruent n b c → Congruent n a c
congruent_trans {n} {a} {b} {c} h k =
    by_difference ((a -ℤ b) +ℤ (b -ℤ c)) (by_ring (a ∷ b ∷ c ∷ []) (search reify depth 64 fits 9999) tt) (∣ℤ_sum h.difference k.difference)

pub congruent_product : {n a b c d : ℤ} → Congruent n a b → Congruent n c d → Congruent n (a *ℤ c) (b *ℤ d)
congruent_product {n} {a} {b} {c} {d} h k =
    by_difference ((a -ℤ b) *ℤ c +ℤ b *ℤ (c -ℤ d)) (by_ring (a ∷ b ∷ c ∷ d ∷ []) (search reify depth 64 fits 9999) tt)
    (∣ℤ_sum (∣ℤ_times_right c h.difference) (∣ℤ_times_left b k.difference))

-- ---- remainders
from_quotients : (n a b r p q : ℤ) → a ≡ r +ℤ n *ℤ p → b ≡ r +ℤ n *ℤ q → Congruent n a b
from_quotients n a b r p q left right =
    record {
      difference = record {
        quotient = p -ℤ q;
        multiple = combine (left ⊞ negsuc 0 ⊠ right) (by_ring (n ∷ a ∷ b ∷ r ∷ p ∷ q ∷ []) (search reify depth 64 fits 9999) tt);
      };
    }

pub congruent_of_same : (n a b : ℕ) → a % n ≡ b % n → Congruent (pos n) (pos a) (pos b)
congruent_of_same n a b same =
    from_quotients (pos n) (pos a) (pos b) (pos (b % n)) (pos (a / n)) (pos (b / n))
    (ap pos (sym (mod-add-div a n) ∙ ap (λ (r : ℕ). r + n * (a / n)) same)) (ap pos (sym (mod-add-div b n)))

pub same_of_congruent : (n a b : ℕ) → Congruent (pos n) (pos a) (pos b) → a % n ≡ b % n
same_of_congruent n a b h = go h.difference.quotient h.difference.multiple
  where
    above : (a b q n : ℤ) → a -ℤ b ≡ q *ℤ n → a ≡ q *ℤ n +ℤ b
    above a b q n e = combine e (by_ring (a ∷ b ∷ q ∷ n ∷ []) (search reify depth 64 fits 9999) tt)

    below : (a b q n : ℤ) → a -ℤ b ≡ q *ℤ n → b ≡ neg_ℤ q *ℤ n +ℤ a
    below a b q n e = combine (negsuc 0 ⊠ e) (by_ring (a ∷ b ∷ q ∷ n ∷ []) (search reify depth 64 fits 9999) tt)

    go : (q : ℤ) → pos a -ℤ pos b ≡ q *ℤ pos n → a % n ≡ b % n
    go (pos k) e = ap (λ (x : ℕ). x % n) (ap nat_abs (above (pos a) (pos b) (pos k) (pos n) e)) ∙ mul-add-mod_self_right k n b
    go (negsuc k) e =
        sym (ap (λ (x : ℕ). x % n) (ap nat_abs (below (pos a) (pos b) (negsuc k) (pos n) e)) ∙ mul-add-mod_self_right (suc k) n a)

pub remainder_below : {n : ℕ} → 0 < n → (m : ℤ) → remainder_of n m < n
unfolding remainder_of
remainder_below {n} h (pos a) = mod-lt a h
remainder_below {n} h (negsuc a) = omega arith

pub remainder_congruent : {n : ℕ} → 0 < n → (m : ℤ) → Congruent (pos n) (pos (remainder_of n m)) m
unfolding remainder_of
remainder_congruent {n} h (pos a) = congruent_of_same n (a % n) a (mod-mod a n)
remainder_congruent {n} h (negsuc a) = record { difference = record { quotient = pos (suc (a / n)); multiple = ap pos sum } }
  where
    sum : n - suc (a % n) + suc a ≡ suc (a / n) * n
    sum = omega (arith, mod-lt a h, mod-add-div' a n, suc-mul (a / n) n)
