-- One to six digits are read as the number that they make, and nothing else is: one digit more makes ten times the
-- number and the digit. All of them are above the minus sign. Assumes nothing.
use Rattle.std.proofs.Common.{◌≡◌, refl, sym, ◌∙◌, true, false, cond, ◌&&◌, ◌⊎◌, inl, inr, ℕ, ◌+◌, ◌-◌, ◌*◌, ◌≤◌, ◌<◌, arith, add-one}
use Rattle.std.proofs.Common.{List, [], ◌∷◌, ◌++◌, length, get_or, take, drop, drop-cons, append-nil, append_assoc}
use Rattle.std.specs.Prelude.{Option, Some, None, option_map, pos, neg_ℤ, nat_eq}
use lib.Pointwise.{pointwise}
use mathlib.Core.Bool.{and-eq-true_iff}
use native.Mathlib.Nat.{lt_of_le_of_lt}
use lib.Dec.{leb}
use lib.ListN.{drop_of_length-le}
use borrow.Author.Tests.{leb-true, le-leb, lt-leb}
use Rattle.point.proofs.Cases.{by_test, when, unless}
use Rattle.std.specs.Char.{IsDigitOf, NotDecimalDigitIn}
use Rattle.row_reader.specs.Reading.{minus, digit_zero, digit_nine, is_digit, all_digits, value_from, read_digits, read_number}
use Rattle.row_reader.specs.Grammar.{Digits, no_digit, one_more, OneToSix}

pub record Digit (b : ℕ) : Type 0 where
  pub low : digit_zero ≤ b
  pub high : b ≤ digit_nine

pub digit_of : (b : ℕ) → is_digit b ≡ true → Digit b
unfolding is_digit
digit_of b e = let (low, high) = (and-eq-true_iff (leb digit_zero b) (leb b digit_nine)).0 e in
    record { low = leb-true digit_zero b low; high = leb-true b digit_nine high }

-- ---- every byte is above k

abbrev pub Above : ℕ → List ℕ → Type 0
Above k [] = Unit {0}
Above k (b ∷ bytes) = (k < b) × Above k bytes

pub above_append : (k : ℕ) (xs ys : List ℕ) → Above k xs → Above k ys → Above k (xs ++ ys)
above_append k [] ys h i = i
above_append k (x ∷ xs) ys h i = (h.0, above_append k xs ys h.1 i)

pub above_less : (j k : ℕ) (xs : List ℕ) → j ≤ k → Above k xs → Above j xs
above_less j k [] l h = tt
above_less j k (x ∷ xs) l h = (lt_of_le_of_lt l h.0, above_less j k xs l h.1)

-- ---- digits are read

pub value_append : (v : ℕ) (ds : List ℕ) (b : ℕ) → value_from v (ds ++ b ∷ []) ≡ value_from v ds * 10 + (b - digit_zero)
unfolding value_from
value_append v [] b = refl
value_append v (d ∷ ds) b = value_append (v * 10 + (d - digit_zero)) ds b

all_append : (text : List ℕ) (b : ℕ) → all_digits text ≡ true → is_digit b ≡ true → all_digits (text ++ b ∷ []) ≡ true
unfolding all_digits
all_append [] b h d = simp d
all_append (c ∷ text) b h d =
    let (first, rest) = (and-eq-true_iff (is_digit c) (all_digits text)).0 h in
    simp (first, all_append text b rest d)

digits_all : {text : List ℕ} {n : ℕ} → Digits text n → all_digits text ≡ true
unfolding all_digits is_digit
digits_all no_digit = refl
digits_all (one_more {text} ds d nine) =
    all_append text (digit_zero + d) (digits_all ds)
    (simp (le-leb digit_zero (digit_zero + d) (omega arith), le-leb (digit_zero + d) digit_nine (omega arith)))

digits_value : {text : List ℕ} {n : ℕ} → Digits text n → value_from 0 text ≡ n
unfolding value_from
digits_value no_digit = refl
digits_value (one_more {text} ds d nine) = value_append 0 text (digit_zero + d) ∙ omega (arith, digits_value ds)

pub digits_above : {text : List ℕ} {n : ℕ} → Digits text n → Above minus text
digits_above no_digit = tt
digits_above (one_more {text} ds d nine) =
    above_append minus text ((digit_zero + d) ∷ []) (digits_above ds) (omega arith, tt)

pub digits_read : {text : List ℕ} {n : ℕ} → OneToSix text n → read_digits text ≡ Some n
unfolding read_digits
digits_read {text} h =
    simp (
      le-leb 1 (length text) h.at_least_one,
      le-leb (length text) 6 h.at_most_six,
      digits_all h.digits,
      digits_value h.digits,
    )

-- ---- one after another

-- the number of a value and the digits after it
unfoldable pub with_more : ℕ → List ℕ → Option ℕ
with_more v ds = cond (all_digits ds) (Some (value_from v ds)) None

pub before_all :
    (text : List ℕ) → 1 ≤ length text → length text ≤ 6 → read_digits text ≡ with_more 0 text
unfolding read_digits with_more
before_all text one six = simp (le-leb 1 (length text) one, le-leb (length text) 6 six)

pub wrong_length : (text : List ℕ) → (length text ≡ 0) ⊎ (6 < length text) → None ≡ read_digits text
unfolding read_digits
wrong_length text (inl e) = simp e
wrong_length text (inr h) = simp (le-leb 1 (length text) (omega arith), lt-leb (length text) 6 h)

-- what the library calls a digit, or none
is_one : (b d : ℕ) → d < 10 → IsDigitOf b d → (is_digit b ≡ true) × (b - digit_zero ≡ d)
unfolding is_digit
is_one b d ten (inl h) =
    (simp (le-leb digit_zero b (omega arith), le-leb b digit_nine (omega arith)), omega arith)
is_one b d ten (inr (inl h)) = grind arith
is_one b d ten (inr (inr h)) = grind arith

is_none : (b : ℕ) → NotDecimalDigitIn 10 b → is_digit b ≡ false
unfolding is_digit
is_none b none =
    by_test (is_digit b) (λ e. let digit = digit_of b e in let above = none digit.low digit.high in grind arith) (λ e. e)

pub at_digit :
    (v d : ℕ) (text : List ℕ) (i : ℕ) → i < length text → d < 10 → IsDigitOf (get_or text i 0) d →
    with_more v (drop i text) ≡ with_more (v * 10 + d) (drop (i + 1) text)
unfolding with_more all_digits value_from
at_digit v d text i h ten is =
    let (digit, value) = is_one _ d ten is in
    rw (add-one, drop-cons text i 0) (simp (digit, sym value))

pub at_other :
    (v : ℕ) (text : List ℕ) (i : ℕ) → i < length text → NotDecimalDigitIn 10 (get_or text i 0) →
    with_more v (drop i text) ≡ None
unfolding with_more all_digits
at_other v text i h other = rw (drop-cons text i 0) (simp (is_none _ other))

pub after_all : (v : ℕ) (text : List ℕ) (i : ℕ) → length text ≤ i → with_more v (drop i text) ≡ Some v
unfolding with_more all_digits value_from
after_all v text i h = rw (drop_of_length-le text h)

-- ---- after a sign, and without one

pub after_sign :
    (part rest : List ℕ) →
    (pointwise nat_eq (take 1 part) (minus ∷ []) ≡ true) × (rest ≡ drop 1 part) × (length rest + 1 ≡ length part) →
    option_map (λ n. neg_ℤ (pos n)) (read_digits rest) ≡ read_number part
unfolding read_number
after_sign [] rest h = cc
after_sign (b ∷ text) rest h = by_test (nat_eq b minus) (λ e. simp (e, h.1)) (λ e. let other = h.0 in cc)

pub no_sign :
    (part : List ℕ) → pointwise nat_eq (take 1 part) (minus ∷ []) ≡ false → option_map pos (read_digits part) ≡ read_number part
unfolding read_number read_digits
no_sign [] h = refl
no_sign (b ∷ text) h = by_test (nat_eq b minus) (λ e. cc) (λ e. simp e)

-- ---- and nothing else is

digits_after :
    (text : List ℕ) {front : List ℕ} {v : ℕ} → Digits front v → all_digits text ≡ true →
    Digits (front ++ text) (value_from v text)
unfolding all_digits value_from
digits_after [] ds h = rw append-nil ds
digits_after (b ∷ text) ds h =
    let (first, rest) = (and-eq-true_iff (is_digit b) (all_digits text)).0 h in
    let digit : Digit b = digit_of b first in
    let is : digit_zero + (b - digit_zero) ≡ b = omega (arith, digit.low) in
    let more = one_more ds (b - digit_zero) (omega (arith, digit.high)) in
    rw append_assoc at (digits_after text (rw is at more) rest)

pub digits_of_read : (text : List ℕ) {n : ℕ} → read_digits text ≡ Some n → OneToSix text n
unfolding read_digits
digits_of_read text {n} e =
    by_test (leb 1 (length text) && leb (length text) 6 && all_digits text)
    (λ t.
    let (sizes, all) = (and-eq-true_iff (leb 1 (length text) && leb (length text) 6) (all_digits text)).0 t in
    let (low, high) = (and-eq-true_iff (leb 1 (length text)) (leb (length text) 6)).0 sizes in
    let some_is = when _ _ t ∙ e in
    let value : value_from 0 text ≡ n = cc in
    record {
      digits = rw value at (digits_after text no_digit all);
      at_least_one = leb-true 1 (length text) low;
      at_most_six = leb-true (length text) 6 high;
    })
    (λ f. let none_is = unless _ _ f ∙ e in cc)
