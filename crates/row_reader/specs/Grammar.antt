-- A text row in the paper's own words: six numbers, one space between, nothing else; each an optional "-" and one to
-- six digits. Leading zeros are digits like others, and "-0" is 0. As statements: such texts are read, and no others.
-- Assumes nothing.
use Rattle.std.specs.Prelude.{List, [], ◌∷◌, ◌++◌, ◌↔◌, ◌≡◌, ℕ, ◌+◌, ◌*◌, ◌≤◌, ℤ, pos, neg_ℤ, length, Some, None}
use Rattle.conic.specs.declared.conic.Conic.{Conic}
use Rattle.row_reader.specs.Reading.{space, minus, digit_zero, read_row}

-- digits, and the number that they make
pub data Digits : List ℕ → ℕ → Type 0 where
  no_digit : Digits [] 0
  one_more : {text : List ℕ} {n : ℕ} → Digits text n → (d : ℕ) → d ≤ 9 →
      Digits (text ++ (digit_zero + d) ∷ []) (n * 10 + d)

pub record OneToSix (text : List ℕ) (n : ℕ) : Type 0 where
  pub digits : Digits text n
  pub at_least_one : 1 ≤ length text
  pub at_most_six : length text ≤ 6

-- an optional "-" and one to six digits
pub data Number : List ℕ → ℤ → Type 0 where
  plain : {text : List ℕ} {n : ℕ} → OneToSix text n → Number text (pos n)
  after_minus : {text : List ℕ} {n : ℕ} → OneToSix text n → Number (minus ∷ text) (neg_ℤ (pos n))

-- numbers with one space between
pub data Numbers : List ℕ → List ℤ → Type 0 where
  last : {text : List ℕ} {n : ℤ} → Number text n → Numbers text (n ∷ [])
  then : {text rest : List ℕ} {n : ℤ} {ns : List ℤ} → Number text n → Numbers rest ns →
      Numbers (text ++ space ∷ rest) (n ∷ ns)

-- six of them, which make h
abbrev pub SixNumbers : List ℕ → Conic → Type 0
SixNumbers text h = Numbers text (h.a ∷ h.b ∷ h.c ∷ h.d ∷ h.e ∷ h.f ∷ [])

-- a text is read as a conic exactly if it is six numbers that make the conic
unfoldable pub ReadGivesExactly : Type 0
ReadGivesExactly = (text : List ℕ) (h : Conic) → read_row text ≡ Some h ↔ SixNumbers text h

-- and as no row exactly if it is six numbers of no conic
unfoldable pub ReadRefusesExactly : Type 0
ReadRefusesExactly = (text : List ℕ) → read_row text ≡ None ↔ ((h : Conic) → ¬ SixNumbers text h)
