-- Numbers of n bytes, the lowest first: one more byte below is 256 times as much and that byte, and std's first n bytes of a number are
-- its n lowest. By induction on n. Assumes nothing.
use mathlib.Core.List.{List, ◌∷◌, ◌++◌}
use mathlib.Core.Path.{◌≡◌, refl, sym, ap, ap₂, ◌∙◌}
use Prim.Native.Nat.{ℕ, zero, suc, ◌+◌, ◌*◌, ◌/◌, ◌%◌, ◌^◌, ◌≤◌, ◌<◌}
use native.Mathlib.Nat.{div-one, div-div-eq-div-mul, pow-suc, pow-le-pow_right, le_refl}
use native.Mathlib.Omega.{arith}
use borrow.Rule.Slice.PartMut.{put_mid}
use lib.ListN.{length, get_or, take, drop}
use lib.Seq.{sets, sets-eq}
use mir.Syntax.{w8}
use mir.Val.{Fits}
use Rattle.std.specs.Int.{w64, to_le_bytes, byte_at, bytes_low_first}
use Rattle.std.proofs.lemmas.Slice.{put_mid-paste}
use Rattle.book.specs.Bytes.{bytes, number_at}

module _ (book : List ℕ) where
  pub number_more :
      {m b k a k' : ℕ} (a' : ℕ) → m ≡ number_at k book a → b ≡ get_or book a' 0 → k' ≡ suc k → a ≡ a' + 1 →
      256 * m + b ≡ number_at k' book a'
  unfolding number_at
  number_more a' number byte more up = rw (more, number, byte, up) (omega arith)

  pub number_below : ((i : ℕ) → Fits w8 (get_or book i 0)) → (n at : ℕ) → number_at n book at < 256 ^ n
  unfolding number_at
  number_below small zero at = omega arith
  number_below small (suc n) at = omega (arith, small at, number_below small n (at + 1), pow-suc 256 n)

  -- one more byte fits 64 bits
  pub seven_below : ((i : ℕ) → Fits w8 (get_or book i 0)) → {m n : ℕ} (at : ℕ) → m ≡ number_at n book at → n ≤ 7 → m < 256 ^ 7
  seven_below small {m} {n} at number few =
      omega (arith, number, number_below small n at, pow-le-pow_right {n = 256} (omega arith) few)

-- a number of one byte is the byte
pub number_one : (book : List ℕ) (at : ℕ) → number_at 1 book at ≡ get_or book at 0
unfolding number_at
number_one book at = omega arith

-- four bytes have a range of 32 bits
pub range_within : {n : ℕ} → n ≤ 4 → 256 ^ n ≤ 4_294_967_296
range_within few = pow-le-pow_right {n = 256} (omega arith) few

pub length_bytes : (n m : ℕ) → length (bytes n m) ≡ n
unfolding bytes
length_bytes zero m = refl
length_bytes (suc n) m = ap suc (length_bytes n (m / 256))

-- ---- std's bytes of a number

byte_is : (i m : ℕ) → byte_at i m ≡ m / 256 ^ i % 256
byte_is zero m = ap (λ (k : ℕ). k % 256) (sym (div-one m))
byte_is (suc i) m = refl

low_bytes : (i n m : ℕ) → bytes_low_first i n m ≡ bytes n (m / 256 ^ i)
unfolding bytes
low_bytes i zero m = refl
low_bytes i (suc n) m =
    ap₂ ◌∷◌ (byte_is i m)
    (low_bytes (suc i) n m ∙ ap (bytes n) (ap (◌/◌ m) (pow-suc 256 i) ∙ sym (div-div-eq-div-mul m (256 ^ i) 256)))

fewer_bytes : (n k m : ℕ) → n ≤ k → take n (bytes k m) ≡ bytes n m
unfolding bytes
fewer_bytes zero k m h = refl
fewer_bytes (suc n) zero m h = absurd (omega arith)
fewer_bytes (suc n) (suc k) m h = ap (◌∷◌ (m % 256)) (fewer_bytes n k (m / 256) (omega arith))

-- the first n of them, written as a run
pub stored :
    (book : List ℕ) {own part : List ℕ} (at n m : ℕ) {l : ℕ} → at + n ≤ length book → n ≤ 8 → own ≡ to_le_bytes w64 m → part ≡ take n own →
    l ≡ n → put_mid at l book part ≡ sets book at (bytes n m)
stored book {own} {part} at n m room small own_is first span =
    let lowest : part ≡ bytes n m =
    first ∙ ap (take n) (own_is ∙ low_bytes 0 8 m ∙ ap (bytes 8) (div-one m)) ∙ fewer_bytes n 8 m small in
    ap₂ (λ (i : ℕ) (p : List ℕ). put_mid at i book p) span lowest
    ∙ put_mid-paste at n book (bytes n m) (bytes n m) n refl refl (sym (length_bytes n m))
    ∙ ap₂ (λ (p : List ℕ) (i : ℕ). take at book ++ p ++ drop (at + i) book) (fewer_bytes n n m (le_refl n)) (sym (length_bytes n m))
    ∙ sym (sets-eq (bytes n m) book at (omega (arith, length_bytes n m)))
