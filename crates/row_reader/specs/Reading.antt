-- Reading a text row: six numbers, one space between, nothing else; each an optional "-" and one to six digits. Assumes nothing.
use Rattle.std.specs.Prelude.{Bool, ◌&&◌, cond, List, [], ◌∷◌, ℕ, ◌+◌, ◌-◌, ◌*◌, leb, eqb, ℤ, pos, neg_ℤ, length, get_or}
use Rattle.std.specs.Prelude.{Option, Some, None, option_map}
use Rattle.std.specs.List.{slice_split}
use Rattle.conic.specs.declared.conic.Conic.{Conic}

abbrev pub space : ℕ
space = 32

abbrev pub minus : ℕ
minus = 45

abbrev pub digit_zero : ℕ
digit_zero = 48

abbrev pub digit_nine : ℕ
digit_nine = 57

-- the parts of a text between its separators
unfoldable pub parts_at : ℕ → List ℕ → List (List ℕ)
parts_at separator text = slice_split (λ b. eqb b separator) text

unfoldable pub is_digit : ℕ → Bool
is_digit b = leb digit_zero b && leb b digit_nine

unfoldable pub all_digits : List ℕ → Bool
all_digits [] = Bool.true
all_digits (b ∷ text) = is_digit b && all_digits text

-- the number that the digits after n's make
unfoldable pub value_from : ℕ → List ℕ → ℕ
value_from n [] = n
value_from n (b ∷ text) = value_from (n * 10 + (b - digit_zero)) text

-- one to six digits
unfoldable pub read_digits : List ℕ → Option ℕ
read_digits text =
    cond (leb 1 (length text) && leb (length text) 6 && all_digits text) (Some (value_from 0 text)) None

-- an optional "-" and one to six digits
unfoldable pub read_number : List ℕ → Option ℤ
read_number [] = None
read_number (b ∷ text) =
    cond (eqb b minus) (option_map (λ n. neg_ℤ (pos n)) (read_digits text)) (option_map pos (read_digits (b ∷ text)))

unfoldable pub and_then : Option ℤ → Option (List ℤ) → Option (List ℤ)
and_then None ns = None
and_then (Some n) None = None
and_then (Some n) (Some ns) = Some (n ∷ ns)

unfoldable pub read_numbers : List (List ℕ) → Option (List ℤ)
read_numbers [] = Some []
read_numbers (part ∷ parts) = and_then (read_number part) (read_numbers parts)

-- six of them
unfoldable pub six : Option (List ℤ) → Option Conic
six None = None
six (Some ns) =
    cond (eqb (length ns) 6)
    (Some (record {
      a = get_or ns 0 (pos 0);
      b = get_or ns 1 (pos 0);
      c = get_or ns 2 (pos 0);
      d = get_or ns 3 (pos 0);
      e = get_or ns 4 (pos 0);
      f = get_or ns 5 (pos 0);
    }))
    None

unfoldable pub read_row : List ℕ → Option Conic
read_row text = six (read_numbers (parts_at space text))
