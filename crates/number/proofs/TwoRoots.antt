-- The roots of a number modulo l: with r also l − r is one, and modulo a prime there are no others, since l divides
-- (r − s)(r + s). So the least root from 0 up is the smaller of r and l − r, for any root r below l. Assumes nothing.
use mathlib.Core.Path.{◌≡◌, sym, ap, ◌∙◌, subst}
use mathlib.Core.Logic.{◌⊎◌, ⊎_elim}
use mathlib.Core.List.{[], ◌∷◌}
use Prim.Native.Nat.{ℕ, ◌+◌, ◌-◌, ◌<◌, ◌≤◌, min}
use native.Mathlib.Nat.{mod-eq_of_lt, le_of_dvd, eq-or-lt_of_le, eq-zero-or-pos, lt_of_le_of_lt}
use native.Mathlib.Decide.{dec_le}
use native.Mathlib.Omega.{arith}
use lib.IntN.{ℤ, pos, neg_ℤ, ◌+ℤ◌, ◌*ℤ◌, ◌-ℤ◌}
use Rattle.whole.proofs.Ring.{by_ring, reify}
use Rattle.whole.proofs.Combination.{combine}
use Rattle.number.specs.Divides.{◌∣ℤ◌}
use Rattle.number.specs.Prime.{Prime}
use Rattle.number.specs.Remainder.{remainder_of}
use Rattle.number.specs.Residue.{SquareModulo, least_root_of}
use Rattle.number.proofs.Divides.{sizes_divide}
use Rattle.number.proofs.Prime.{prime_divides_product}
use Rattle.number.proofs.Congruence.{Congruent, congruent_sym, congruent_trans, congruent_product, congruent_of_equal, same_of_congruent, remainder_below}
use Rattle.number.proofs.Residues.{least_root_at_most, least_root_is_least, least_root_is_root, square_of_found, reduced_root}

pub two_roots : {l : ℕ} → Prime l → (r s : ℤ) → Congruent (pos l) (r *ℤ r) (s *ℤ s) → (pos l ∣ℤ (r -ℤ s)) ⊎ (pos l ∣ℤ (r +ℤ s))
two_roots {l} prime r s h = prime_divides_product (r -ℤ s) (r +ℤ s) prime (subst (λ (x : ℤ). pos l ∣ℤ x) factored h.difference)
  where
    factored : r *ℤ r -ℤ s *ℤ s ≡ (r -ℤ s) *ℤ (r +ℤ s)
    factored = by_ring (r ∷ s ∷ []) (search reify depth 64 fits 9999) tt

-- l − r is a root where r is
opposite_congruent : (l r s : ℤ) → s +ℤ r ≡ l → Congruent l s (neg_ℤ r)
opposite_congruent l r s e =
    record { difference = record { quotient = pos 1; multiple = combine e (by_ring (l ∷ r ∷ s ∷ []) (search reify depth 64 fits 9999) tt) } }

opposite_square : (r : ℤ) → neg_ℤ r *ℤ neg_ℤ r ≡ r *ℤ r
opposite_square r = by_ring (r ∷ []) (search reify depth 64 fits 9999) tt

pub opposite_root : {l r : ℕ} {m : ℤ} → r ≤ l → Congruent (pos l) (pos r *ℤ pos r) m → Congruent (pos l) (pos (l - r) *ℤ pos (l - r)) m
opposite_root {l} {r} h root =
    congruent_trans (congruent_trans (congruent_product near near) (congruent_of_equal (pos l) (opposite_square (pos r)))) root
  where
    sum : l - r + r ≡ l
    sum = omega arith

    near : Congruent (pos l) (pos (l - r)) (neg_ℤ (pos r))
    near = opposite_congruent (pos l) (pos r) (pos (l - r)) (ap pos sum)

-- a root leaves a root that is at most half the modulus, so a search that passed those has passed all
pub none_up_to_half : {n : ℕ} {m : ℤ} → 0 < n → ((r : ℕ) → r + r ≤ n → ¬ Congruent (pos n) (pos r *ℤ pos r) m) → ¬ SquareModulo n m
none_up_to_half {n} {m} h none s = by (dec_le (r + r) n)
  where
    r : ℕ
    r = remainder_of n s.root

    by : Dec (r + r ≤ n) → ⊥
    by (yes small) = none r small (reduced_root h s)
    by (no large) = none (n - r) (omega arith) (opposite_root (omega (arith, remainder_below h s.root)) (reduced_root h s))

pub least_root_none : {n : ℕ} {m : ℤ} → ¬ SquareModulo n m → least_root_of n m ≡ n
least_root_none {n} {m} none = ⊎_elim (λ e. e) (λ h. absurd (none (square_of_found h))) (eq-or-lt_of_le (least_root_at_most n m))

pub least_root_of_prime : {l r : ℕ} {m : ℤ} → Prime l → r < l → Congruent (pos l) (pos r *ℤ pos r) m → least_root_of l m ≡ min r (l - r)
least_root_of_prime {l} {r} {m} prime h root = ⊎_elim by_difference by_sum (two_roots prime (pos r) (pos t) (congruent_trans root (congruent_sym least_root_lem)))
  where
    t : ℕ
    t = least_root_of l m

    below_root : t ≤ r
    below_root = least_root_is_least root

    below_opposite : t ≤ l - r
    below_opposite = least_root_is_least (opposite_root (omega arith) root)

    least_root_lem : Congruent (pos l) (pos t *ℤ pos t) m
    least_root_lem = least_root_is_root (lt_of_le_of_lt below_root h)

    by_difference : pos l ∣ℤ (pos r -ℤ pos t) → t ≡ min r (l - r)
    by_difference d =
        let same : r ≡ t = sym (mod-eq_of_lt h) ∙ same_of_congruent l r t (record { difference = d }) ∙ mod-eq_of_lt (lt_of_le_of_lt below_root h) in
        omega (arith, below_opposite)

    by_sum : pos l ∣ℤ (pos r +ℤ pos t) → t ≡ min r (l - r)
    by_sum d = ⊎_elim (λ e. omega (arith, below_root)) (λ p. omega (arith, below_root, below_opposite, le_of_dvd p (sizes_divide d))) (eq-zero-or-pos (r + t))
