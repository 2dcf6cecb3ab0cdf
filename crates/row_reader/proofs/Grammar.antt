-- A text is read as a conic exactly if it is six numbers that make the conic, and as no row exactly if it is no such
-- text: each of its parts is read exactly if it is a number, and six of them make a conic. Assumes nothing.
use mathlib.Core.Path.{◌≡◌, refl, sym, ap, ◌∙◌, subst}
use mathlib.Core.List.{List, [], ◌∷◌, ◌++◌}
use Rattle.std.specs.Prelude.{Option, Some, None, option_map}
use Prim.Native.Nat.{ℕ, ◌<◌}
use native.Mathlib.Omega.{arith}
use lib.Dec.{eqb, lit<, lit≤}
use lib.IntN.{ℤ, pos, neg_ℤ}
use lib.ListN.{length, get_or}
use borrow.Author.Tests.{eqb-true, ne_eqb}
use Rattle.point.proofs.Cases.{by_test, when, unless}
use Rattle.std.specs.List.{join_with_byte}
use Rattle.conic.specs.declared.conic.Conic.{Conic}
use Rattle.row_reader.specs.Reading.{space, minus, parts_at, read_digits, read_number, and_then, read_numbers, six, read_row}
use Rattle.row_reader.specs.Grammar.{OneToSix, Number, plain, after_minus, Numbers, last, then, SixNumbers, ReadGivesExactly, ReadRefusesExactly}
use Rattle.row_reader.proofs.Digits.{Above, above_less, digits_above, digits_read, digits_of_read}
use Rattle.row_reader.proofs.Cutting.{split, cut_last, cut_first, rejoined}

-- ---- a number

plain_read : (text : List ℕ) {n : ℕ} → OneToSix text n → read_number text ≡ Some (pos n)
unfolding read_number
plain_read [] h = absurd (omega (arith, h.at_least_one))
plain_read (b ∷ text) h =
    let digit : minus < b = (digits_above h.digits).0 in
    simp (ne_eqb b minus (λ e. omega arith), digits_read h)

number_read : {text : List ℕ} {n : ℤ} → Number text n → read_number text ≡ Some n
unfolding read_number
number_read (plain {text} h) = plain_read text h
number_read (after_minus h) = simp (digits_read h)

-- what holds of each number that digits make holds of the one that is read
signed : (P : ℤ → Type 0) (sign : ℕ → ℤ) (text : List ℕ) {m : ℤ} → ((n : ℕ) → OneToSix text n → P (sign n)) →
    option_map sign (read_digits text) ≡ Some m → P m
signed P sign text {m} f e = go (read_digits text) refl e
  where
    go : (o : Option ℕ) → read_digits text ≡ o → option_map sign o ≡ Some m → P m
    go None r e = cc
    go (Some n) r e = subst P (cc) (f n (digits_of_read text r))

number_of_read : (text : List ℕ) {n : ℤ} → read_number text ≡ Some n → Number text n
unfolding read_number
number_of_read [] e = cc
number_of_read (b ∷ text) {n} e =
    by_test (eqb b minus)
    (λ t. subst (λ (c : ℕ). Number (c ∷ text) n) (sym (eqb-true b minus t))
    (signed (Number (minus ∷ text)) (λ n. neg_ℤ (pos n)) text (λ m. after_minus) (when _ _ t ∙ e)))
    (λ f. signed (Number (b ∷ text)) pos (b ∷ text) (λ m. plain) (unless _ _ f ∙ e))

number_above : {text : List ℕ} {n : ℤ} → Number text n → Above space text
number_above (plain {text} h) = above_less space minus text (lit≤ tt) (digits_above h.digits)
number_above (after_minus {text} h) = (lit< tt, above_less space minus text (lit≤ tt) (digits_above h.digits))

-- ---- numbers with one space between

numbers_read : {text : List ℕ} {ns : List ℤ} → Numbers text ns → read_numbers (parts_at space text) ≡ Some ns
unfolding read_numbers and_then
numbers_read (last {text} h) = simp (cut_last text (number_above h), number_read h)
numbers_read (then {text} {rest} h more) =
    simp (cut_first text rest (number_above h), number_read h, numbers_read more)

-- a number and those after it
record Both (o : Option ℤ) (os : Option (List ℤ)) (ns : List ℤ) : Type 0 where
  n : ℤ
  rest : List ℤ
  first_is : o ≡ Some n
  rest_is : os ≡ Some rest
  is : n ∷ rest ≡ ns

both : (o : Option ℤ) (os : Option (List ℤ)) {ns : List ℤ} → and_then o os ≡ Some ns → Both o os ns
unfolding and_then
both None os e = cc
both (Some n) None e = cc
both (Some n) (Some rest) e = record { n = n; rest = rest; first_is = refl; rest_is = refl; is = cc }

numbers_of_read :
    (part : List ℕ) (parts : List (List ℕ)) {ns : List ℤ} → read_numbers (part ∷ parts) ≡ Some ns →
    Numbers (join_with_byte space (part ∷ parts)) ns
unfolding read_numbers
numbers_of_read part [] {ns} e =
    let b = both (read_number part) (Some []) e in
    subst (Numbers part) (cc) (last (number_of_read part b.first_is))
numbers_of_read part (next ∷ parts) {ns} e =
    let b = both (read_number part) (read_numbers (next ∷ parts)) e in
    subst (Numbers (part ++ space ∷ join_with_byte space (next ∷ parts))) b.is
    (then (number_of_read part b.first_is) (numbers_of_read next parts b.rest_is))

-- ---- six of them

six_elements :
    (ns : List ℤ) → length ns ≡ 6 →
    ns ≡
    get_or ns 0 (pos 0) ∷ get_or ns 1 (pos 0) ∷ get_or ns 2 (pos 0) ∷
    get_or ns 3 (pos 0) ∷ get_or ns 4 (pos 0) ∷ get_or ns 5 (pos 0) ∷ []
six_elements [] e = absurd (omega arith)
six_elements (a ∷ []) e = absurd (omega arith)
six_elements (a ∷ b ∷ []) e = absurd (omega arith)
six_elements (a ∷ b ∷ c ∷ []) e = absurd (omega arith)
six_elements (a ∷ b ∷ c ∷ d ∷ []) e = absurd (omega arith)
six_elements (a ∷ b ∷ c ∷ d ∷ f ∷ []) e = absurd (omega arith)
six_elements (a ∷ b ∷ c ∷ d ∷ f ∷ g ∷ []) e = refl
six_elements (a ∷ b ∷ c ∷ d ∷ f ∷ g ∷ i ∷ ns) e = absurd (omega arith)

pub read_gives_exactly : ReadGivesExactly
unfolding ReadGivesExactly read_row six
read_gives_exactly text h = (λ e. go (read_numbers (parts_at space text)) refl e, λ s. ap six (numbers_read s))
  where
    numbers_of : {ns : List ℤ} → read_numbers (parts_at space text) ≡ Some ns → Numbers text ns
    numbers_of {ns} e =
        let cut = split space text in
        subst (λ (t : List ℕ). Numbers t ns) (sym (ap (join_with_byte space) cut.is) ∙ rejoined text)
        (numbers_of_read cut.part cut.parts (rw cut.is at e))

    go : (o : Option (List ℤ)) → read_numbers (parts_at space text) ≡ o → six o ≡ Some h → SixNumbers text h
    go None r e = cc
    go (Some ns) r e =
        by_test (eqb (length ns) 6)
        (λ t.
        let made = when _ _ t ∙ e in
        subst (SixNumbers text) (cc)
        (subst (Numbers text) (six_elements ns (eqb-true (length ns) 6 t)) (numbers_of r)))
        (λ f. let other = unless _ _ f ∙ e in cc)

-- ---- or no row

pub read_refuses_exactly : ReadRefusesExactly
unfolding ReadRefusesExactly ReadGivesExactly
read_refuses_exactly text = (
  λ e h s. let given_too = (read_gives_exactly text h).1 s in cc,
  λ not. go not (read_row text) refl,
)
  where
    go : ((h : Conic) → ¬ SixNumbers text h) → (o : Option Conic) → read_row text ≡ o → o ≡ None
    go not None e = refl
    go not (Some h) e = absurd (not h ((read_gives_exactly text h).0 e))
