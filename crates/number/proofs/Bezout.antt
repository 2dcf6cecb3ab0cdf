-- Bézout: the greatest common divisor is a combination of the two numbers, found backwards along Euclid's remainders; so numbers
-- with no common factor combine to 1, and what follows from that: Euclid's lemma and products. Assumes nothing.
use mathlib.Core.Path.{◌≡◌, sym, ap, ap₂, ◌∙◌, subst}
use mathlib.Core.List.{[], ◌∷◌}
use Prim.Native.Nat.{ℕ, zero, suc, ◌*◌, ◌/◌, ◌%◌, ◌∣◌}
use native.Mathlib.Nat.{div-add-mod', eq-one_of_dvd-one}
use lib.IntN.{ℤ, pos, nat_abs, ◌+ℤ◌, ◌-ℤ◌, ◌*ℤ◌, *ℤ_comm}
use Rattle.whole.proofs.Laws.{one-*ℤ, *ℤ_assoc}
use Rattle.whole.proofs.Ring.{by_ring, reify}
use Rattle.number.specs.Divides.{◌∣ℤ◌}
use Rattle.number.specs.Gcd.{euclid, gcd_of, Coprime}
use Rattle.number.proofs.Divides.{∣ℤ_sum, ∣ℤ_times_left, ∣ℤ_multiple, nat_abs-∣ℤ, pos_divides, sizes_divide, divides_by_sizes}
use Rattle.number.proofs.Gcd.{coprime_of_common_divisors}

-- g is a combination of a and b
pub record Combines (a b g : ℤ) : Type 0 where
  pub left : ℤ
  pub right : ℤ
  pub combination : left *ℤ a +ℤ right *ℤ b ≡ g

back : (u v q b r : ℤ) → v *ℤ (q *ℤ b +ℤ r) +ℤ (u -ℤ v *ℤ q) *ℤ b ≡ u *ℤ b +ℤ v *ℤ r
back u v q b r = by_ring (u ∷ v ∷ q ∷ b ∷ r ∷ []) (search reify depth 64 fits 9999) tt

remainder_combines : (q : ℤ) {a b r g : ℤ} → a ≡ q *ℤ b +ℤ r → Combines b r g → Combines a b g
remainder_combines q {a} {b} {r} e c =
    record {
      left = c.right;
      right = c.left -ℤ c.right *ℤ q;
      combination =
          ap (λ x. c.right *ℤ x +ℤ (c.left -ℤ c.right *ℤ q) *ℤ b) e ∙ back c.left c.right q b r ∙ c.combination;
    }

keeps_first : (a b : ℤ) → pos 1 *ℤ a +ℤ pos 0 *ℤ b ≡ a
keeps_first a b = by_ring (a ∷ b ∷ []) (search reify depth 64 fits 9999) tt

euclid_combines : (n a b : ℕ) → Combines (pos a) (pos b) (pos (euclid n a b))
unfolding euclid
euclid_combines zero a b = record { left = pos 1; right = pos 0; combination = keeps_first (pos a) (pos b) }
euclid_combines (suc n) a zero = record { left = pos 1; right = pos 0; combination = keeps_first (pos a) (pos 0) }
euclid_combines (suc n) a (suc b) =
    remainder_combines (pos (a / suc b)) (ap pos (sym (div-add-mod' a (suc b)))) (euclid_combines n (suc b) (a % suc b))

pub bezout : (a b : ℕ) → Combines (pos a) (pos b) (pos (gcd_of a b))
unfolding gcd_of
bezout a b = euclid_combines (suc b) a b

through : {a c : ℤ} (u : ℤ) (h : c ∣ℤ a) → u *ℤ h.quotient *ℤ c ≡ u *ℤ a
through {a} {c} u h = *ℤ_assoc u h.quotient c ∙ ap (λ x. u *ℤ x) (sym h.multiple)

-- a combination of multiples is a combination
pub combines_divisors : {a b c d g : ℤ} → Combines a b g → c ∣ℤ a → d ∣ℤ b → Combines c d g
combines_divisors m h k =
    record {
      left = m.left *ℤ h.quotient;
      right = m.right *ℤ k.quotient;
      combination =
          ap₂ ◌+ℤ◌ (through m.left h) (through m.right k) ∙ m.combination;
    }

pub bezout_ℤ : (a b : ℤ) → Combines a b (pos (gcd_of (nat_abs a) (nat_abs b)))
bezout_ℤ a b = combines_divisors (bezout (nat_abs a) (nat_abs b)) (nat_abs-∣ℤ a) (nat_abs-∣ℤ b)

-- a divisor of both divides each combination
pub divides_combination : {d a b g : ℤ} → Combines a b g → d ∣ℤ a → d ∣ℤ b → d ∣ℤ g
divides_combination {d} m h k =
    subst (λ x. d ∣ℤ x) m.combination (∣ℤ_sum (∣ℤ_times_left m.left h) (∣ℤ_times_left m.right k))

-- ---- no common factor
pub coprime_combines : {a b : ℤ} → Coprime a b → Combines a b (pos 1)
coprime_combines {a} {b} p = subst (λ (g : ℕ). Combines a b (pos g)) p.gcd_is_one (bezout_ℤ a b)

pub combines_coprime : {a b : ℤ} → Combines a b (pos 1) → Coprime a b
combines_coprime {a} {b} m =
    coprime_of_common_divisors λ d h k. eq-one_of_dvd-one
    (sizes_divide (divides_combination m (divides_by_sizes (pos d) a h) (divides_by_sizes (pos d) b k)))

pub coprime_naturals : (a b : ℕ) → gcd_of a b ≡ 1 → Coprime (pos a) (pos b)
coprime_naturals a b e = record { gcd_is_one = e }

-- Euclid's lemma
spread : (u v a b c : ℤ) → (u *ℤ a +ℤ v *ℤ b) *ℤ c ≡ u *ℤ c *ℤ a +ℤ v *ℤ (b *ℤ c)
spread u v a b c = by_ring (u ∷ v ∷ a ∷ b ∷ c ∷ []) (search reify depth 64 fits 9999) tt

pub euclid_lemma : {a b : ℤ} (c : ℤ) → Coprime a b → a ∣ℤ (b *ℤ c) → a ∣ℤ c
euclid_lemma {a} {b} c p h = subst (λ x. a ∣ℤ x) spread_one (∣ℤ_sum (∣ℤ_multiple (m.left *ℤ c) a) (∣ℤ_times_left m.right h))
  where
    m : Combines a b (pos 1)
    m = coprime_combines p

    spread_one : m.left *ℤ c *ℤ a +ℤ m.right *ℤ (b *ℤ c) ≡ c
    spread_one = sym (spread m.left m.right a b c) ∙ ap (λ x. x *ℤ c) m.combination ∙ one-*ℤ c

pub coprimes_divide : {a b c : ℤ} → Coprime a b → a ∣ℤ c → b ∣ℤ c → (a *ℤ b) ∣ℤ c
coprimes_divide {a} {b} {c} p h k =
    record { quotient = l.quotient; multiple = k.multiple ∙ ap (λ x. x *ℤ b) l.multiple ∙ *ℤ_assoc l.quotient a b }
  where
    l : a ∣ℤ k.quotient
    l = euclid_lemma k.quotient p (subst (λ x. a ∣ℤ x) (k.multiple ∙ *ℤ_comm k.quotient b) h)

-- the same on ℕ
pub euclid_lemma_ℕ : (a b c : ℕ) → gcd_of a b ≡ 1 → a ∣ b * c → a ∣ c
euclid_lemma_ℕ a b c e h = sizes_divide (euclid_lemma (pos c) (coprime_naturals a b e) (pos_divides a h))

-- coprime to both factors, coprime to the product
product_combination : (u v s t a b c : ℤ) →
    u *ℤ s *ℤ (a *ℤ b) +ℤ (u *ℤ a *ℤ t +ℤ v *ℤ s *ℤ b +ℤ v *ℤ t *ℤ c) *ℤ c ≡ (u *ℤ a +ℤ v *ℤ c) *ℤ (s *ℤ b +ℤ t *ℤ c)
product_combination u v s t a b c = by_ring (u ∷ v ∷ s ∷ t ∷ a ∷ b ∷ c ∷ []) (search reify depth 64 fits 9999) tt

pub coprime_product : {a b c : ℤ} → Coprime a c → Coprime b c → Coprime (a *ℤ b) c
coprime_product {a} {b} {c} p q =
    combines_coprime
    record {
      left = m.left *ℤ n.left;
      right = m.left *ℤ a *ℤ n.right +ℤ m.right *ℤ n.left *ℤ b +ℤ m.right *ℤ n.right *ℤ c;
      combination = product_combination m.left m.right n.left n.right a b c ∙ ap₂ ◌*ℤ◌ m.combination n.combination;
    }
  where
    m : Combines a c (pos 1)
    m = coprime_combines p

    n : Combines b c (pos 1)
    n = coprime_combines q
