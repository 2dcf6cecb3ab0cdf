-- Three congruences make abc divide F = ax² + by² − cz²: where r² ≡ bc (mod a) and by ≡ −rz (mod a), b·(by² − cz²) ≡ 0, and b has no
-- common factor with a; the same for b and c; and a, b, c have none in pairs. Assumes nothing.
use mathlib.Core.Path.{◌≡◌, subst}
use mathlib.Core.List.{[], ◌∷◌}
use lib.IntN.{ℤ, neg_ℤ, ◌+ℤ◌, ◌-ℤ◌, ◌*ℤ◌}
use Rattle.whole.proofs.Ring.{by_ring, reify}
use Rattle.whole.proofs.Combination.{combine, ◌⊞◌, ◌⊠◌}
use Rattle.number.specs.Divides.{◌∣ℤ◌}
use Rattle.number.specs.Gcd.{Coprime}
use Rattle.number.proofs.Divides.{∣ℤ_sum, ∣ℤ_difference, ∣ℤ_multiple}
use Rattle.number.proofs.Bezout.{euclid_lemma, coprimes_divide, coprime_product}
use Rattle.number.proofs.Gcd.{coprime_symmetric}

-- one modulus
pub divides_two_terms : (m b c y z r : ℤ) → Coprime m b → m ∣ℤ (r *ℤ r -ℤ b *ℤ c) → m ∣ℤ (b *ℤ y +ℤ r *ℤ z) → m ∣ℤ (b *ℤ (y *ℤ y) -ℤ c *ℤ (z *ℤ z))
divides_two_terms m b c y z r coprime root congruent = euclid_lemma (b *ℤ (y *ℤ y) -ℤ c *ℤ (z *ℤ z)) coprime record {
  quotient = (b *ℤ y -ℤ r *ℤ z) *ℤ congruent.quotient +ℤ z *ℤ z *ℤ root.quotient;
  multiple = b_times congruent.quotient root.quotient congruent.multiple root.multiple;
}
  where
    b_times : (k n : ℤ) → b *ℤ y +ℤ r *ℤ z ≡ k *ℤ m → r *ℤ r -ℤ b *ℤ c ≡ n *ℤ m →
        b *ℤ (b *ℤ (y *ℤ y) -ℤ c *ℤ (z *ℤ z)) ≡ ((b *ℤ y -ℤ r *ℤ z) *ℤ k +ℤ z *ℤ z *ℤ n) *ℤ m
    b_times k n h i = combine ((b *ℤ y -ℤ r *ℤ z) ⊠ h ⊞ (z *ℤ z) ⊠ i) (by_ring (m ∷ b ∷ c ∷ y ∷ z ∷ r ∷ k ∷ n ∷ []) (search reify depth 64 fits 9999) tt)

-- ax² + by² − cz²
abbrev pub difference : ℤ → ℤ → ℤ → ℤ → ℤ → ℤ → ℤ
difference a b c x y z = a *ℤ (x *ℤ x) +ℤ b *ℤ (y *ℤ y) -ℤ c *ℤ (z *ℤ z)

-- a, b, c without common factors in pairs, with a root of bc modulo a, of ca modulo b and of −ab modulo c
pub record Roots (a b c r s t : ℤ) : Type 0 where
  pub coprime_ab : Coprime a b
  pub coprime_bc : Coprime b c
  pub coprime_ca : Coprime c a
  pub root_a : a ∣ℤ (r *ℤ r -ℤ b *ℤ c)
  pub root_b : b ∣ℤ (s *ℤ s -ℤ c *ℤ a)
  pub root_c : c ∣ℤ (t *ℤ t -ℤ a *ℤ neg_ℤ b)

pub record Congruences (a b c r s t x y z : ℤ) : Type 0 where
  pub modulo_a : a ∣ℤ (b *ℤ y +ℤ r *ℤ z)
  pub modulo_b : b ∣ℤ (c *ℤ z +ℤ s *ℤ x)
  pub modulo_c : c ∣ℤ (a *ℤ x +ℤ t *ℤ y)

module _ (a b c r s t x y z : ℤ) (roots : Roots a b c r s t) (congruences : Congruences a b c r s t x y z) where
  a_divides : a ∣ℤ difference a b c x y z
  a_divides = subst (λ (n : ℤ). a ∣ℤ n) (by_ring (a ∷ b ∷ c ∷ x ∷ y ∷ z ∷ []) (search reify depth 64 fits 9999) tt)
      (∣ℤ_sum (∣ℤ_multiple (x *ℤ x) a) (divides_two_terms a b c y z r roots.coprime_ab roots.root_a congruences.modulo_a))

  b_divides : b ∣ℤ difference a b c x y z
  b_divides = subst (λ (n : ℤ). b ∣ℤ n) (by_ring (a ∷ b ∷ c ∷ x ∷ y ∷ z ∷ []) (search reify depth 64 fits 9999) tt)
      (∣ℤ_difference (∣ℤ_multiple (y *ℤ y) b) (divides_two_terms b c a z x s roots.coprime_bc roots.root_b congruences.modulo_b))

  c_divides : c ∣ℤ difference a b c x y z
  c_divides = subst (λ (n : ℤ). c ∣ℤ n) (by_ring (a ∷ b ∷ c ∷ x ∷ y ∷ z ∷ []) (search reify depth 64 fits 9999) tt)
      (∣ℤ_difference (divides_two_terms c a (neg_ℤ b) x y t roots.coprime_ca roots.root_c congruences.modulo_c) (∣ℤ_multiple (z *ℤ z) c))

  pub product_divides : (a *ℤ b *ℤ c) ∣ℤ difference a b c x y z
  product_divides = coprimes_divide (coprime_product (coprime_symmetric roots.coprime_ca) roots.coprime_bc)
      (coprimes_divide roots.coprime_ab a_divides b_divides) c_divides
