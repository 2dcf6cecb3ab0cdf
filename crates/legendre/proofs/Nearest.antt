-- Choosing a number by parity and by size: for whole K, M and w > 0 some Z, f, B have M = 2f + Z², K = B + Z·w and |B| ≤ w.
-- Z must have M's parity, and such numbers are 2 apart, so one of the multiples Z·w is within w of K. Assumes nothing.
use mathlib.Core.Path.{◌≡◌, sym, ap, ◌∙◌}
use mathlib.Core.List.{[], ◌∷◌}
use Prim.Native.Nat.{ℕ, suc, ◌+◌, ◌*◌, ◌-◌, ◌/◌, ◌%◌, ◌≤◌, ◌<◌}
use native.Mathlib.Nat.{mod-lt, div-add-mod}
use native.Mathlib.Decide.{dec_le}
use native.Mathlib.Omega.{arith}
use lib.IntN.{ℤ, pos, negsuc, neg_ℤ, nat_abs, ◌+ℤ◌, ◌-ℤ◌, ◌*ℤ◌, +ℤ-neg_ℤ_cancel}
use Rattle.whole.proofs.Ring.{by_ring, reify}
use Rattle.whole.proofs.Combination.{combine, ◌⊞◌, ◌⊠◌}
use Rattle.whole.proofs.Size.{nat_abs_neg}
use Rattle.number.proofs.Square.{own_square}

-- m as twice a number and a rest of 0 or 1
record Halved (m : ℤ) : Type 0 where
  half : ℤ
  rest : ℤ
  is_twice : m ≡ pos 2 *ℤ half +ℤ rest
  rest_is_bit : rest *ℤ rest ≡ rest

halved_negated : (m : ℤ) → Halved m → Halved (neg_ℤ m)
halved_negated m h =
    record {
      half = neg_ℤ (h.half +ℤ h.rest);
      rest = h.rest;
      is_twice = combine (negsuc 0 ⊠ h.is_twice) (by_ring (m ∷ h.half ∷ h.rest ∷ []) (search reify depth 64 fits 9999) tt);
      rest_is_bit = h.rest_is_bit;
    }

halved_natural : (n : ℕ) → Halved (pos n)
halved_natural n =
    record { half = pos (n / 2); rest = pos (n % 2); is_twice = ap pos (omega arith); rest_is_bit = ap pos (own_square (n % 2) (omega arith)) }

halved : (m : ℤ) → Halved m
halved (pos n) = halved_natural n
halved (negsuc n) = halved_negated (pos (suc n)) (halved_natural (suc n))

-- k as a multiple of 2w and a rest within w
record Nearest (w k : ℤ) : Type 0 where
  times : ℤ
  rest : ℤ
  is_near : k ≡ pos 2 *ℤ (times *ℤ w) +ℤ rest
  within : nat_abs rest ≤ nat_abs w

nearest_negated : (w k : ℤ) → Nearest w k → Nearest w (neg_ℤ k)
nearest_negated w k h =
    record {
      times = neg_ℤ h.times;
      rest = neg_ℤ h.rest;
      is_near = combine (negsuc 0 ⊠ h.is_near) (by_ring (k ∷ w ∷ h.times ∷ h.rest ∷ []) (search reify depth 64 fits 9999) tt);
      within = rw (nat_abs_neg h.rest) h.within;
    }

nearest_natural : (w n : ℕ) → 0 < w → Nearest (pos w) (pos n)
nearest_natural w n w>0 = by_rest (dec_le (n % (2 * w)) w)
  where
    split : 2 * w * (n / (2 * w)) + n % (2 * w) ≡ n
    split = div-add-mod n (2 * w)

    below : n % (2 * w) < 2 * w
    below = mod-lt n (omega arith)

    by_rest : Dec (n % (2 * w) ≤ w) → Nearest (pos w) (pos n)
    by_rest (yes small) =
        record { times = pos (n / (2 * w)); rest = pos (n % (2 * w)); is_near = ap pos (omega (arith, split)); within = small }
    by_rest (no large) =
        record {
          times = pos (suc (n / (2 * w)));
          rest = neg_ℤ (pos (2 * w - n % (2 * w)));
          is_near =
              sym (+ℤ-neg_ℤ_cancel (pos n) (pos (2 * w - n % (2 * w))))
              ∙ ap (λ (s : ℕ). pos s -ℤ pos (2 * w - n % (2 * w))) (omega (arith, split, below));
          within = rw (nat_abs_neg (pos (2 * w - n % (2 * w)))) (omega arith);
        }

nearest : (w : ℕ) (k : ℤ) → 0 < w → Nearest (pos w) k
nearest w (pos n) w>0 = nearest_natural w n w>0
nearest w (negsuc n) w>0 = nearest_negated (pos w) (pos (suc n)) (nearest_natural w (suc n) w>0)

pub record Choice (w K M : ℤ) : Type 0 where
  pub Z : ℤ
  pub f : ℤ
  pub B : ℤ
  pub same_parity : M ≡ pos 2 *ℤ f +ℤ Z *ℤ Z
  pub near : K ≡ B +ℤ Z *ℤ w
  pub within : nat_abs B ≤ nat_abs w

chosen : (w K M : ℤ) (h : Halved M) → Nearest w (K -ℤ h.rest *ℤ w) → Choice w K M
chosen w K M h n =
    record {
      Z = h.rest +ℤ pos 2 *ℤ n.times;
      f = h.half -ℤ pos 2 *ℤ (h.rest *ℤ n.times) -ℤ pos 2 *ℤ (n.times *ℤ n.times);
      B = n.rest;
      same_parity =
          combine (pos 1 ⊠ h.is_twice ⊞ negsuc 0 ⊠ h.rest_is_bit)
          (by_ring (M ∷ h.half ∷ h.rest ∷ n.times ∷ []) (search reify depth 64 fits 9999) tt);
      near = combine (pos 1 ⊠ n.is_near) (by_ring (K ∷ w ∷ h.rest ∷ n.times ∷ n.rest ∷ []) (search reify depth 64 fits 9999) tt);
      within = n.within;
    }

pub choose : (w : ℕ) (K M : ℤ) → 0 < w → Choice (pos w) K M
choose w K M w>0 = chosen (pos w) K M (halved M) (nearest w (K -ℤ (halved M).rest *ℤ pos w) w>0)
