-- The least failing prime from the three coefficients' own: the condition fails at l where it fails for one of them, and each of them
-- fails only at its own divisors, below the limit. Assumes nothing.
use mathlib.Core.Path.{◌≡◌, refl, sym, ap, ap₂, ◌∙◌}
use mathlib.Core.Bool.{Bool, true, false, ◌&&◌, ◌||◌, not, and-or_distrib_right}
use Prim.Native.Nat.{ℕ, suc}
use native.Mathlib.Nat.{le_refl}
use native.Mathlib.Omega.{arith}
use lib.IntN.{ℤ, nat_abs, neg_ℤ, ◌*ℤ◌}
use Rattle.number.specs.Divides.{divides}
use Rattle.number.specs.Prime.{is_prime}
use Rattle.number.specs.Residue.{is_square_modulo}
use Rattle.legendre.specs.Outcome.{holds_for, fails_at, prime_limit}
use Rattle.legendre.specs.Reach.{Reach}
use Rattle.legendre.specs.Search.{least_below, smaller_of, fails, failing_of}
use Rattle.legendre.proofs.Search.{Bounded, Finds, finds_equals, least_below_finds, finds_smaller, finds_same, bounded_either, bounded_same}
use Rattle.legendre.proofs.FailingPrimes.{fails_bounded}
use Rattle.legendre.proofs.Reach.{triable_p, triable_g, triable_q}

-- ---- the tests

not_both : (a b : Bool) → not (a && b) ≡ (not a || not b)
not_both true b = refl
not_both false b = refl

not_implied : (d s : Bool) → not (not d || s) ≡ (d && not s)
not_implied true s = refl
not_implied false s = refl

one_of_three : (a b c prime : Bool) → not (a && b && c) && prime ≡ (((not a && prime) || (not b && prime)) || (not c && prime))
one_of_three a b c prime =
    ap (λ (t : Bool). t && prime) (not_both (a && b) c ∙ ap (λ (t : Bool). t || not c) (not_both a b))
    ∙ and-or_distrib_right (not a || not b) (not c) prime
    ∙ ap (λ (t : Bool). t || (not c && prime)) (and-or_distrib_right (not a) (not b) prime)

module _ (p g q : ℤ) where
  abbrev for_p : ℕ → Bool
  for_p = fails (nat_abs p) (neg_ℤ (g *ℤ q))

  abbrev for_g : ℕ → Bool
  for_g = fails (nat_abs g) (neg_ℤ (p *ℤ q))

  abbrev for_q : ℕ → Bool
  for_q = fails (nat_abs q) (neg_ℤ (p *ℤ g))

  own_failure : (a b c : ℤ) (l : ℕ) → (not (holds_for l a b c) && is_prime l) ≡ fails (nat_abs a) (neg_ℤ (b *ℤ c)) l
  unfolding holds_for fails
  own_failure a b c l = ap (λ (t : Bool). t && is_prime l) (not_implied (divides l (nat_abs a)) (is_square_modulo l (neg_ℤ (b *ℤ c))))

  fails_for_one : (l : ℕ) → ((for_p l || for_g l) || for_q l) ≡ fails_at p g q l
  unfolding fails_at
  fails_for_one l = sym (one_of_three (holds_for l p g q) (holds_for l g p q) (holds_for l q p g) (is_prime l)
      ∙ ap₂ ◌||◌ (ap₂ ◌||◌ (own_failure p g q l) (own_failure g p q l)) (own_failure q p g l))

  pub least_of_three : Reach p g q → smaller_of (smaller_of (failing_of p g q) (failing_of g p q)) (failing_of q p g) ≡ least_below (fails_at p g q) (prime_limit p g q)
  unfolding prime_limit
  least_of_three reach =
      finds_equals (smaller_of (smaller_of (failing_of p g q) (failing_of g p q)) (failing_of q p g)) (bounded_same fails_for_one bounded)
      (finds_same (λ l. (for_p l || for_g l) || for_q l) (fails_at p g q) (smaller_of (smaller_of (failing_of p g q) (failing_of g p q)) (failing_of q p g)) fails_for_one finds)
    where
      bounded_p : Bounded for_p (suc (nat_abs p))
      bounded_p = fails_bounded (nat_abs p) (neg_ℤ (g *ℤ q)) (triable_p reach).positive

      bounded_g : Bounded for_g (suc (nat_abs g))
      bounded_g = fails_bounded (nat_abs g) (neg_ℤ (p *ℤ q)) (triable_g reach).positive

      bounded_q : Bounded for_q (suc (nat_abs q))
      bounded_q = fails_bounded (nat_abs q) (neg_ℤ (p *ℤ g)) (triable_q reach).positive

      bounded : Bounded (λ l. (for_p l || for_g l) || for_q l) (prime_limit p g q)
      bounded = bounded_either (bounded_either bounded_p bounded_g (omega arith) (omega arith)) bounded_q (le_refl _) (omega arith)

      finds : Finds (λ l. (for_p l || for_g l) || for_q l) (smaller_of (smaller_of (failing_of p g q) (failing_of g p q)) (failing_of q p g))
      finds =
          finds_smaller (λ l. for_p l || for_g l) for_q (smaller_of (failing_of p g q) (failing_of g p q)) (failing_of q p g)
          (finds_smaller for_p for_g (failing_of p g q) (failing_of g p q) (least_below_finds for_p _ bounded_p) (least_below_finds for_g _ bounded_g))
          (least_below_finds for_q _ bounded_q)
