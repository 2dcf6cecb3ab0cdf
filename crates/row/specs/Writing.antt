-- Writing a row: "P x y z", "N sign", "N prime n" or "R n", numbers in decimal, ended by one line feed. Assumes nothing.
use Rattle.std.specs.Prelude.{cond, List, [], ◌∷◌, ◌++◌, ℕ, zero, suc, ◌+◌, ◌/◌, ◌%◌, ltb, ℤ, pos, negsuc}
use Rattle.point.specs.Paper.{Verdict, point, none_by_sign, none_by_prime, refusal}
use Rattle.row_reader.specs.Reading.{space, minus, digit_zero}

abbrev pub line_feed : ℕ
line_feed = 10

-- at most k + 1 digits
unfoldable pub digits : ℕ → ℕ → List ℕ
digits zero n = (digit_zero + n % 10) ∷ []
digits (suc k) n = cond (ltb n 10) ((digit_zero + n) ∷ []) (digits k (n / 10) ++ ((digit_zero + n % 10) ∷ []))

-- a number has no more digits than its value and one
unfoldable pub decimal : ℕ → List ℕ
decimal n = digits n n

unfoldable pub signed_decimal : ℤ → List ℕ
signed_decimal (pos n) = decimal n
signed_decimal (negsuc n) = minus ∷ decimal (suc n)

unfoldable pub row_text : Verdict → List ℕ
-- "P x y z"
row_text (point p) =
    80 ∷ space ∷ signed_decimal p.x ++ space ∷ signed_decimal p.y ++ space ∷ signed_decimal p.z ++ line_feed ∷ []
-- "N sign"
row_text none_by_sign = 78 ∷ space ∷ 115 ∷ 105 ∷ 103 ∷ 110 ∷ line_feed ∷ []
-- "N prime n"
row_text (none_by_prime l) = 78 ∷ space ∷ 112 ∷ 114 ∷ 105 ∷ 109 ∷ 101 ∷ space ∷ decimal l ++ line_feed ∷ []
-- "R n"
row_text (refusal n) = 82 ∷ space ∷ decimal n ++ line_feed ∷ []
