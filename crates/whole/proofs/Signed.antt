-- The machine's arithmetic by size: of each result, which number it stands for and how large that is at most, built by `search sizes`
-- from bounds on the leaves among the hypotheses. Where all that was stored on the way is within its width, which `tt` tests, the
-- number fits (`fits`), is the one it stands for (`reads`) and is at most so large (`bounds`). Assumes nothing.
use mathlib.Core.Path.{◌≡◌, refl, sym, ap, ap₂, ◌∙◌, subst}
use mathlib.Core.Bool.{Bool, true, ◌&&◌}
use Prim.Native.Nat.{ℕ, suc, ◌+◌, ◌*◌, ◌^◌, ◌≤◌, ◌<◌}
use native.Mathlib.Nat.{le_trans, le_of_eq, add-le-add, mul-le-mul, lt_of_le_of_lt, le_refl, mod-le}
use lib.Dec.{T, leb, ltb, leb→le, ltb→lt}
use lib.IntN.{ℤ, pos, negsuc, neg_ℤ, nat_abs, ◌+ℤ◌, ◌*ℤ◌}
use lib.Signed.{mag, quot_z, rem_z, nat_abs-le}
use lib.Ieee.Fits.{and_l, and_r}
use mir.Syntax.{Width}
use mir.Val.{Fits, SFits, bits, hbits, to_z, of_z}
use mir.Facts.{to_z-of_z, Fits-of_z, Fits-lit}
use Rattle.whole.proofs.Size.{nat_abs_neg, nat_abs-+, nat_abs-*, quotient_size, nat_abs_rem, mag-≤-nat_abs}

-- of a whole number, of a natural number, and of the bits of a signed type
pub record Sized (m : ℤ) : Type 0 where
  pub value : ℤ
  pub bound : ℕ
  pub room : Bool
  pub same : T room → m ≡ value
  pub small : nat_abs value ≤ bound

pub record Counted (n : ℕ) : Type 0 where
  pub value : ℕ
  pub bound : ℕ
  pub room : Bool
  pub same : T room → n ≡ value
  pub small : value ≤ bound

pub record Stored (w : Width) (n : ℕ) : Type 0 where
  pub value : ℤ
  pub bound : ℕ
  pub room : Bool
  pub same : T room → to_z w n ≡ value
  pub whole : T room → Fits w n
  pub small : nat_abs value ≤ bound

-- ---- what is had of them

abbrev pub within : Width → {m : ℤ} → Sized m → Bool
within w e = e.room && ltb e.bound (2 ^ hbits w)

pub fits : (w : Width) {m : ℤ} (e : Sized m) → T (within w e) → SFits w m
fits w {m} e t = subst (SFits w) (sym (e.same (and_l e.room _ t))) (record { sfits = lt_of_le_of_lt size below })
  where
    size : mag e.value ≤ e.bound
    size = le_trans (mag-≤-nat_abs e.value) e.small

    below : e.bound < 2 ^ hbits w
    below = ltb→lt e.bound (2 ^ hbits w) (and_r e.room _ t)

pub reads : {m z : ℤ} (e : Sized m) → T e.room → e.value ≡ z → m ≡ z
reads e t p = e.same t ∙ p

pub counts : {m n : ℕ} (e : Counted m) → T e.room → e.value ≡ n → m ≡ n
counts e t p = e.same t ∙ p

pub bounds : {m n : ℕ} (e : Counted m) → T (e.room && leb e.bound n) → m ≤ n
bounds {m} {n} e t = subst (λ (k : ℕ). k ≤ n) (sym (e.same (and_l e.room _ t))) (le_trans e.small (leb→le e.bound n (and_r e.room _ t)))

-- ---- leaves: a bound among the hypotheses, a call's result that its contract equates with z, a number that is written out (its
-- test computes at no other)

abbrev pub at_most : {x : ℤ} (b : ℕ) → nat_abs x ≤ b → Sized x
at_most {x} b h = record { value = x; bound = b; room = true; same = λ t. refl; small = h }

abbrev pub equal_to : (m z : ℤ) → m ≡ z → Sized z → Sized m
equal_to m z p e = record { value = e.value; bound = e.bound; room = e.room; same = λ t. p ∙ e.same t; small = e.small }

abbrev pub literal : (n : ℕ) → T (leb n n) → Sized (pos n)
literal n h = record { value = pos n; bound = n; room = true; same = λ t. refl; small = le_refl n }

abbrev pub negative_literal : (n : ℕ) → T (leb n n) → Sized (negsuc n)
negative_literal n h = record { value = negsuc n; bound = suc n; room = true; same = λ t. refl; small = le_refl (suc n) }

abbrev pub count_at_most : {n : ℕ} (b : ℕ) → n ≤ b → Counted n
count_at_most {n} b h = record { value = n; bound = b; room = true; same = λ t. refl; small = h }

abbrev pub count_literal : (n : ℕ) → T (leb n n) → Counted n
count_literal n h = record { value = n; bound = n; room = true; same = λ t. refl; small = le_refl n }

abbrev pub stored_literal : (w : Width) (n : ℕ) → T (leb n n) → Stored w n
stored_literal w n h = record { value = to_z w n; bound = nat_abs (to_z w n); room = ltb n (2 ^ bits w); same = λ t. refl; whole = Fits-lit; small = le_refl (nat_abs (to_z w n)) }

-- ---- from one kind to another

abbrev pub stored : (w : Width) {m : ℤ} → Sized m → Stored w (of_z w m)
stored w e = record { value = e.value; bound = e.bound; room = within w e; same = λ t. to_z-of_z (fits w e t) ∙ e.same (and_l e.room _ t); whole = λ t. Fits-of_z (fits w e t); small = e.small }

abbrev pub read_back : (w : Width) {n : ℕ} → Stored w n → Sized (to_z w n)
read_back w e = record { value = e.value; bound = e.bound; room = e.room; same = e.same; small = e.small }

abbrev pub size : {m : ℤ} → Sized m → Counted (nat_abs m)
size e = record { value = nat_abs e.value; bound = e.bound; room = e.room; same = λ t. ap nat_abs (e.same t); small = e.small }

abbrev pub equal_to_size : (n : ℕ) (m : ℤ) → n ≡ nat_abs m → Sized m → Counted n
equal_to_size n m p e = record { value = nat_abs e.value; bound = e.bound; room = e.room; same = λ t. p ∙ ap nat_abs (e.same t); small = e.small }

abbrev pub unsigned : {n : ℕ} → Counted n → Sized (pos n)
unsigned e = record { value = pos e.value; bound = e.bound; room = e.room; same = λ t. ap pos (e.same t); small = e.small }

-- what is stored and read back
abbrev pub kept : (w : Width) {m : ℤ} → Sized m → Sized (to_z w (of_z w m))
kept w e = read_back w (stored w e)

-- an unsigned number, cast: its bits are read as they are
abbrev pub cast_at_most : (w : Width) {n : ℕ} (b : ℕ) → n ≤ b → Sized (to_z w n)
cast_at_most w b h = read_back w (stored w (unsigned (count_at_most b h)))

abbrev pub cast_size : (w : Width) {m : ℤ} → Sized m → Sized (to_z w (nat_abs m))
cast_size w e = read_back w (stored w (unsigned (size e)))

-- a signed number of which nothing is known but that it fits
abbrev pub in_range_lem : (w : Width) (x : ℤ) → SFits w x → Stored w (of_z w x)
in_range_lem w x f = record { value = x; bound = 2 ^ hbits w; room = true; same = λ t. to_z-of_z f; whole = λ t. Fits-of_z f; small = nat_abs-le x f.sfits }

-- ---- operations

abbrev pub negation : {a : ℤ} → Sized a → Sized (neg_ℤ a)
negation d = record { value = neg_ℤ d.value; bound = d.bound; room = d.room; same = λ t. ap neg_ℤ (d.same t); small = le_trans (le_of_eq (nat_abs_neg d.value)) d.small }

-- of two whole numbers, whose result's size is at most n
abbrev pub operation : (f : ℤ → ℤ → ℤ) {a b : ℤ} (d : Sized a) (e : Sized b) (n : ℕ) → nat_abs (f d.value e.value) ≤ n → Sized (f a b)
operation f d e n h = record {
  value = f d.value e.value;
  bound = n;
  room = d.room && e.room;
  same = λ t. ap₂ f (d.same (and_l d.room _ t)) (e.same (and_r d.room _ t));
  small = h;
}

abbrev pub sum : {a b : ℤ} → Sized a → Sized b → Sized (a +ℤ b)
sum d e = operation ◌+ℤ◌ d e (d.bound + e.bound) (le_trans (nat_abs-+ d.value e.value) (add-le-add d.small e.small))

abbrev pub product : {a b : ℤ} → Sized a → Sized b → Sized (a *ℤ b)
product d e = operation ◌*ℤ◌ d e (d.bound * e.bound) (le_trans (le_of_eq (nat_abs-* d.value e.value)) (mul-le-mul d.small e.small))

abbrev pub quotient : {a b : ℤ} → Sized a → Sized b → Sized (quot_z a b)
quotient d e = operation quot_z d e d.bound (le_trans (quotient_size d.value e.value) d.small)

abbrev pub remainder : {a b : ℤ} → Sized a → Sized b → Sized (rem_z a b)
remainder d e = operation rem_z d e d.bound (le_trans (le_of_eq (nat_abs_rem d.value e.value)) (le_trans (mod-le (nat_abs d.value) (nat_abs e.value)) d.small))

-- a difference is a sum with a negation
pub ruleset sizes = (tt, kept, sum, product, negation, quotient, remainder, literal, negative_literal, at_most, equal_to, stored, stored_literal, size, unsigned, count_at_most, count_literal, equal_to_size)

-- where unsigned numbers are cast to signed ones
pub ruleset casts = (sizes, cast_size, cast_at_most)

-- where a number may be any of its type: `search (ranges, sizes)`
pub ruleset ranges = (in_range_lem, read_back)
