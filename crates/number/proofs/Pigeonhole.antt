-- The pigeonhole principle: more numbers than places, so two of them go to one place. Compare the last number with the others:
-- one of them has the same place, or its place is free for them, and the places above it move down by one. Assumes nothing.
use mathlib.Core.Path.{◌≡◌, sym, ap, ◌∙◌}
use mathlib.Core.Logic.{◌≢◌, ◌⊎◌, inl, inr}
use Prim.Native.Nat.{ℕ, zero, suc, pred, ◌<◌}
use native.Mathlib.Nat.{not-suc-le-zero, eq-or-lt_of_le, le_of_suc-le-suc}
use native.Mathlib.Decide.{ℕ_discrete, dec_lt}
use native.Mathlib.Omega.{arith}

-- two numbers below n with one place
pub record Meet (f : ℕ → ℕ) (n : ℕ) : Type 0 where
  pub first : ℕ
  pub second : ℕ
  pub apart : first < second
  pub within : second < n
  pub same : f first ≡ f second

-- some number below n goes to v, or none does
Goes : (ℕ → ℕ) → ℕ → ℕ → Type 0
Goes f v n = ((i : ℕ) × (i < n) × (f i ≡ v)) ⊎ ((i : ℕ) → i < n → f i ≢ v)

goes : (f : ℕ → ℕ) (v n : ℕ) → Goes f v n
unfolding Goes
goes f v zero = inr (λ i h. absurd (not-suc-le-zero h))
goes f v (suc n) = at_last (ℕ_discrete (f n) v) (goes f v n)
  where
    below : ((i : ℕ) → i < n → f i ≢ v) → f n ≢ v → (i : ℕ) → (i ≡ n) ⊎ (i < n) → f i ≢ v
    below none last i (inl e) at_i = last (ap f (sym e) ∙ at_i)
    below none last i (inr h) at_i = none i h at_i

    before : f n ≢ v → Goes f v n → Goes f v (suc n)
    before last (inl (i, h, e)) = inl (i, omega arith, e)
    before last (inr none) = inr (λ i h. below none last i (eq-or-lt_of_le (le_of_suc-le-suc h)))

    at_last : Dec (f n ≡ v) → Goes f v n → Goes f v (suc n)
    at_last (yes e) _ = inl (n, omega arith, e)
    at_last (no last) rest = before last rest

-- the place x once the place v is gone
abbrev down : (v x : ℕ) → Dec (v < x) → ℕ
down v x (yes h) = pred x
down v x (no h) = x

lowered : ℕ → ℕ → ℕ
lowered v x = down v x (dec_lt v x)

lowered_below : (v x m : ℕ) → v < suc m → x < suc m → x ≢ v → lowered v x < m
unfolding lowered
lowered_below v x m hv hx away = by (dec_lt v x)
  where
    by : (d : Dec (v < x)) → down v x d < m
    by (yes h) = let g : pred x < m = omega arith in g
    by (no h) = omega arith

lowered_injective : (v x y : ℕ) → x ≢ v → y ≢ v → lowered v x ≡ lowered v y → x ≡ y
unfolding lowered
lowered_injective v x y away-x away-y = by (dec_lt v x) (dec_lt v y)
  where
    by : (d : Dec (v < x)) (e : Dec (v < y)) → down v x d ≡ down v y e → x ≡ y
    by (yes h) (yes k) same = let p : pred x ≡ pred y = same in omega arith
    by (yes h) (no k) same = let p : pred x ≡ y = same in omega arith
    by (no h) (yes k) same = let p : x ≡ pred y = same in omega arith
    by (no h) (no k) same = same

pub pigeonhole : (f : ℕ → ℕ) (n m : ℕ) → ((i : ℕ) → i < n → f i < m) → m < n → Meet f n
unfolding Goes
pigeonhole f zero m into more = absurd (not-suc-le-zero more)
pigeonhole f (suc n) zero into more = absurd (not-suc-le-zero (into n (omega arith)))
pigeonhole f (suc n) (suc m) into more = by (goes f (f n) n) (pigeonhole (λ i. lowered (f n) (f i)) n m)
  where
    by : Goes f (f n) n → (((i : ℕ) → i < n → lowered (f n) (f i) < m) → m < n → Meet (λ i. lowered (f n) (f i)) n) → Meet f (suc n)
    by (inl (i, h, e)) rest = record { first = i; second = n; apart = h; within = omega arith; same = e }
    by (inr none) rest = raised (rest
        (λ i h. lowered_below (f n) (f i) m (into n (omega arith)) (into i (omega arith)) (none i h)) (omega arith))
      where
        raised : Meet (λ i. lowered (f n) (f i)) n → Meet f (suc n)
        raised w = record {
          first = w.first;
          second = w.second;
          apart = w.apart;
          within = omega arith;
          same = lowered_injective (f n) (f w.first) (f w.second) (none w.first (omega arith)) (none w.second w.within) w.same;
        }
