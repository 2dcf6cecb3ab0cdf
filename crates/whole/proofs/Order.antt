-- The order of the whole numbers, beyond what `lib.Signed` says of it: a total order, that of the naturals, and an order is a
-- difference that is not negative. A test of order on two whole numbers is, at each pair of signs, a test on naturals or a
-- constant. Assumes nothing.
use mathlib.Core.Path.{◌≡◌, sym, ap, subst}
use mathlib.Core.Logic.{◌≢◌, ◌⊎◌, inl, inr, ⊎_elim}
use mathlib.Core.Bool.{Bool, true, false, not, cond}
use Prim.Native.Nat.{ℕ, zero, suc, ◌-◌, ◌≤◌, ◌<◌, zero-le, suc-le-suc}
use native.Mathlib.Nat as Nat
use lib.Dec.{T, ltb, leb→le, le→leb, ltb→lt, nltb→le}
use lib.IntN.{ℤ, pos, negsuc, nat_abs, sub_ℕ, ◌-ℤ◌}
use lib.Signed.{◌≤ℤ◌, ◌<ℤ◌, le_z, lt_z, non_neg, le_z_yes, lt_z_yes, lt_z_no, ≤ℤ_refl, clash_ℤ, yes_non_neg, pos-nat_abs}

-- ---- an order

pub ≤ℤ_of-≡ : {a b : ℤ} → a ≡ b → a ≤ℤ b
≤ℤ_of-≡ {a} e = subst (λ (x : ℤ). a ≤ℤ x) e (≤ℤ_refl a)

trans_test : (a b c : ℤ) → T (le_z a b) → T (le_z b c) → T (le_z a c)
trans_test (pos a) (pos b) (pos c) h k = le→leb a c (Nat.le_trans (leb→le a b h) (leb→le b c k))
trans_test (pos a) (pos b) (negsuc c) h k = k
trans_test (pos a) (negsuc b) c h k = absurd h
trans_test (negsuc a) (pos b) (pos c) h k = tt
trans_test (negsuc a) (pos b) (negsuc c) h k = absurd k
trans_test (negsuc a) (negsuc b) (pos c) h k = tt
trans_test (negsuc a) (negsuc b) (negsuc c) h k = le→leb c a (Nat.le_trans (leb→le c b k) (leb→le b a h))

pub ≤ℤ_trans : {a b c : ℤ} → a ≤ℤ b → b ≤ℤ c → a ≤ℤ c
≤ℤ_trans {a} {b} {c} h k = le_z_yes (trans_test a b c h.le k.le)

antisym_test : (a b : ℤ) → T (le_z a b) → T (le_z b a) → a ≡ b
antisym_test (pos a) (pos b) h k = ap pos (Nat.le_antisymm (leb→le a b h) (leb→le b a k))
antisym_test (pos a) (negsuc b) h k = absurd h
antisym_test (negsuc a) (pos b) h k = absurd k
antisym_test (negsuc a) (negsuc b) h k = ap negsuc (Nat.le_antisymm (leb→le a b k) (leb→le b a h))

pub ≤ℤ_antisym : {a b : ℤ} → a ≤ℤ b → b ≤ℤ a → a ≡ b
≤ℤ_antisym {a} {b} h k = antisym_test a b h.le k.le

by_test : (t : Bool) {A B : Type 0} → (T t → A) → (T (not t) → B) → A ⊎ B
by_test true f g = inl (f tt)
by_test false f g = inr (g tt)

pub <ℤ_or-≤ℤ : (a b : ℤ) → (a <ℤ b) ⊎ (b ≤ℤ a)
<ℤ_or-≤ℤ a b = by_test (lt_z a b) lt_z_yes lt_z_no

pub <ℤ_by_not : {a b : ℤ} → ¬ (b ≤ℤ a) → a <ℤ b
<ℤ_by_not {a} {b} f = ⊎_elim (λ h. h) (λ k. absurd (f k)) (<ℤ_or-≤ℤ a b)

weaken_test : (a b : ℤ) → T (lt_z a b) → T (le_z a b)
weaken_test (pos a) (pos b) h = le→leb a b (Nat.le_of_lt (ltb→lt a b h))
weaken_test (pos a) (negsuc b) h = h
weaken_test (negsuc a) (pos b) h = tt
weaken_test (negsuc a) (negsuc b) h = le→leb b a (Nat.le_of_lt (ltb→lt b a h))

pub ≤ℤ_of-<ℤ : {a b : ℤ} → a <ℤ b → a ≤ℤ b
≤ℤ_of-<ℤ {a} {b} h = le_z_yes (weaken_test a b h.lt)

pub ≤ℤ-<ℤ_trans : {a b c : ℤ} → a ≤ℤ b → b <ℤ c → a <ℤ c
≤ℤ-<ℤ_trans h k = <ℤ_by_not (λ l. clash_ℤ k (≤ℤ_trans l h))

pub ≢-of-<ℤ : {a b : ℤ} → a <ℤ b → a ≢ b
≢-of-<ℤ h e = clash_ℤ h (≤ℤ_of-≡ (sym e))

pub <ℤ_of-≤ℤ-≢ : {a b : ℤ} → a ≤ℤ b → a ≢ b → a <ℤ b
<ℤ_of-≤ℤ-≢ h f = <ℤ_by_not (λ k. f (≤ℤ_antisym h k))

pub data Ways (a b : ℤ) : Type 0 where
  below : a <ℤ b → Ways a b
  equal : a ≡ b → Ways a b
  above : b <ℤ a → Ways a b

pub trichotomy : (a b : ℤ) → Ways a b
trichotomy a b = ⊎_elim below (λ k. ⊎_elim above (λ l. equal (≤ℤ_antisym l k)) (<ℤ_or-≤ℤ b a)) (<ℤ_or-≤ℤ a b)

-- ---- naturals

pub pos-≤ : {m n : ℕ} → m ≤ n → pos m ≤ℤ pos n
pos-≤ {m} {n} h = le_z_yes (le→leb m n h)

pub ≤-of_pos : {m n : ℕ} → pos m ≤ℤ pos n → m ≤ n
≤-of_pos {m} {n} h = leb→le m n h.le

pub pos-< : {m n : ℕ} → m < n → pos m <ℤ pos n
pos-< {m} {n} h = lt_z_yes (le→leb (suc m) n h)

pub <-of_pos : {m n : ℕ} → pos m <ℤ pos n → m < n
<-of_pos {m} {n} h = ltb→lt m n h.lt

pub zero-≤ℤ_pos : (n : ℕ) → pos 0 ≤ℤ pos n
zero-≤ℤ_pos n = pos-≤ zero-le

pub negsuc-<ℤ_pos : (m n : ℕ) → negsuc m <ℤ pos n
negsuc-<ℤ_pos m n = lt_z_yes tt

pub pos_nat_abs_of-≤ℤ : {a : ℤ} → pos 0 ≤ℤ a → pos (nat_abs a) ≡ a
pos_nat_abs_of-≤ℤ {a} h = pos-nat_abs a (yes_non_neg h)

-- ---- differences

sub_nonneg : (a b : ℕ) → T (non_neg (sub_ℕ a b)) → b ≤ a
sub_nonneg a b = go (ltb a b) (nltb→le a b)
  where
    go : (t : Bool) → (T (not t) → b ≤ a) → T (non_neg (cond t (negsuc (b - suc a)) (pos (a - b)))) → b ≤ a
    go true f h = absurd h
    go false f h = f tt

nonneg_sub : (a b : ℕ) → b ≤ a → T (non_neg (sub_ℕ a b))
nonneg_sub a b k = go (ltb a b) (ltb→lt a b)
  where
    go : (t : Bool) → (T t → a < b) → T (non_neg (cond t (negsuc (b - suc a)) (pos (a - b))))
    go true f = absurd (Nat.not-le_of_lt (f tt) k)
    go false f = tt

difference_test : (a b : ℤ) → T (le_z a b) → T (non_neg (b -ℤ a))
difference_test (pos zero) (pos b) h = tt
difference_test (pos (suc a)) (pos b) h = nonneg_sub b (suc a) (leb→le (suc a) b h)
difference_test (pos a) (negsuc b) h = absurd h
difference_test (negsuc a) (pos b) h = tt
difference_test (negsuc a) (negsuc b) h = nonneg_sub (suc a) (suc b) (suc-le-suc (leb→le b a h))

test_difference : (a b : ℤ) → T (non_neg (b -ℤ a)) → T (le_z a b)
test_difference (pos zero) (pos b) h = le→leb 0 b zero-le
test_difference (pos (suc a)) (pos b) h = le→leb (suc a) b (sub_nonneg b (suc a) h)
test_difference (pos zero) (negsuc b) h = absurd (Nat.not-suc-le-zero (sub_nonneg 0 (suc b) h))
test_difference (pos (suc a)) (negsuc b) h = absurd h
test_difference (negsuc a) (pos b) h = tt
test_difference (negsuc a) (negsuc b) h = le→leb b a (Nat.le_of_suc-le-suc (sub_nonneg (suc a) (suc b) h))

nonneg_of_test : (z : ℤ) → T (non_neg z) → pos 0 ≤ℤ z
nonneg_of_test (pos n) t = zero-≤ℤ_pos n
nonneg_of_test (negsuc n) t = absurd t

pub zero-≤ℤ_difference : {a b : ℤ} → a ≤ℤ b → pos 0 ≤ℤ (b -ℤ a)
zero-≤ℤ_difference {a} {b} h = nonneg_of_test (b -ℤ a) (difference_test a b h.le)

pub ≤ℤ_of_difference : (a b : ℤ) → pos 0 ≤ℤ (b -ℤ a) → a ≤ℤ b
≤ℤ_of_difference a b h = le_z_yes (test_difference a b (yes_non_neg h))
