-- Two answers with the same row text are equal: the first bytes tell the kind, no byte of a number is a space or a line
-- feed, so that the numbers are told apart, and a number's digits tell the number. Assumes nothing.
use mathlib.Core.Path.{◌≡◌, refl, sym, ap, ◌∙◌, subst}
use mathlib.Core.List.{List, [], ◌∷◌, ◌++◌, append_assoc}
use Prim.Native.Nat.{ℕ, suc, ◌≤◌}
use native.Mathlib.Omega.{arith}
use lib.Dec.{lit<, lit≤}
use lib.IntN.{ℤ, pos, negsuc}
use Rattle.point.specs.Paper.{point, none_by_sign, none_by_prime, refusal}
use Rattle.point.specs.declared.Point.{Point}
use Rattle.row_reader.specs.Reading.{space, minus}
use Rattle.row.specs.Writing.{line_feed, decimal, signed_decimal, row_text}
use Rattle.row.specs.Theorems.{RowTellsAnswer}
use Rattle.row_reader.proofs.Digits.{Above, above_less}
use Rattle.row.proofs.Decimal.{decimal_above, decimal_injective}

heads : {a b : ℕ} {xs ys : List ℕ} → a ∷ xs ≡ b ∷ ys → a ≡ b
heads e = cc

tails : {a b : ℕ} {xs ys : List ℕ} → a ∷ xs ≡ b ∷ ys → xs ≡ ys
tails e = cc

-- up to the first byte that is not above k two texts are the same, and after it
same_front :
    (k : ℕ) (xs ys : List ℕ) {c d : ℕ} {xr yr : List ℕ} → Above k xs → Above k ys → c ≤ k → d ≤ k →
    xs ++ c ∷ xr ≡ ys ++ d ∷ yr → (xs ≡ ys) × (xr ≡ yr)
same_front k [] [] h i c d e = (refl, tails e)
same_front k [] (y ∷ ys) h i c d e = absurd (omega (arith, heads e, i.0))
same_front k (x ∷ xs) [] h i c d e = absurd (omega (arith, heads e, h.0))
same_front k (x ∷ xs) (y ∷ ys) h i c d e =
    let (front, rest) = same_front k xs ys h.1 i.1 c d (tails e) in
    let first : x ≡ y = heads e in
    (cc, rest)

decimal_bytes : (n : ℕ) → Above space (decimal n)
decimal_bytes n = above_less space minus (decimal n) (lit≤ tt) (decimal_above n)

signed_bytes : (n : ℤ) → Above space (signed_decimal n)
unfolding signed_decimal
signed_bytes (pos n) = decimal_bytes n
signed_bytes (negsuc n) = (lit< tt, decimal_bytes (suc n))

not_minus : (m n : ℕ) → decimal m ≡ minus ∷ decimal n → ⊥
not_minus m n e = omega (arith, (subst (Above minus) e (decimal_above m)).0)

signed_injective : (m n : ℤ) → signed_decimal m ≡ signed_decimal n → m ≡ n
unfolding signed_decimal
signed_injective (pos m) (pos n) e = ap pos (decimal_injective e)
signed_injective (pos m) (negsuc n) e = absurd (not_minus m (suc n) e)
signed_injective (negsuc m) (pos n) e = absurd (not_minus n (suc m) (sym e))
signed_injective (negsuc m) (negsuc n) e =
    let next : suc m ≡ suc n = decimal_injective (tails e) in
    ap negsuc (omega arith)

number_of : (m n : ℕ) → decimal m ++ line_feed ∷ [] ≡ decimal n ++ line_feed ∷ [] → m ≡ n
number_of m n e =
    decimal_injective (same_front space (decimal m) (decimal n) (decimal_bytes m) (decimal_bytes n) (lit≤ tt) (lit≤ tt) e).0

-- three numbers, one after the other
in_a_row : List ℕ → List ℕ → List ℕ → List ℕ
in_a_row x y z = x ++ space ∷ (y ++ space ∷ (z ++ line_feed ∷ []))

regroup : (x y z : List ℕ) → x ++ space ∷ y ++ space ∷ z ++ line_feed ∷ [] ≡ in_a_row x y z
unfolding in_a_row
regroup x y z = simp append_assoc

same_signed :
    (m n : ℤ) {c d : ℕ} {xr yr : List ℕ} → c ≤ space → d ≤ space → signed_decimal m ++ c ∷ xr ≡ signed_decimal n ++ d ∷ yr →
    (m ≡ n) × (xr ≡ yr)
same_signed m n c d e =
    let (front, rest) = same_front space (signed_decimal m) (signed_decimal n) (signed_bytes m) (signed_bytes n) c d e in
    (signed_injective m n front, rest)

same_point : (p q : Point) → row_text (point p) ≡ row_text (point q) → p ≡ q
unfolding row_text in_a_row
same_point p q e =
    let numbers :
    in_a_row (signed_decimal p.x) (signed_decimal p.y) (signed_decimal p.z) ≡
    in_a_row (signed_decimal q.x) (signed_decimal q.y) (signed_decimal q.z) =
    sym (regroup (signed_decimal p.x) (signed_decimal p.y) (signed_decimal p.z))
    ∙ tails (tails e)
    ∙ regroup (signed_decimal q.x) (signed_decimal q.y) (signed_decimal q.z)
    in
    let (x, after_x) = same_signed p.x q.x (lit≤ tt) (lit≤ tt) numbers in
    let (y, after_y) = same_signed p.y q.y (lit≤ tt) (lit≤ tt) after_x in
    let (z, after_z) = same_signed p.z q.z (lit≤ tt) (lit≤ tt) after_y in
    λ i. record { x = x i; y = y i; z = z i }

pub row_tells_answer : RowTellsAnswer
unfolding RowTellsAnswer row_text
row_tells_answer (point p) (point q) e = ap point (same_point p q e)
row_tells_answer (point p) none_by_sign e = absurd (omega (arith, heads e))
row_tells_answer (point p) (none_by_prime l) e = absurd (omega (arith, heads e))
row_tells_answer (point p) (refusal n) e = absurd (omega (arith, heads e))
row_tells_answer none_by_sign (point q) e = absurd (omega (arith, heads e))
row_tells_answer none_by_sign none_by_sign e = refl
row_tells_answer none_by_sign (none_by_prime l) e = absurd (omega (arith, heads (tails (tails e))))
row_tells_answer none_by_sign (refusal n) e = absurd (omega (arith, heads e))
row_tells_answer (none_by_prime l) (point q) e = absurd (omega (arith, heads e))
row_tells_answer (none_by_prime l) none_by_sign e = absurd (omega (arith, heads (tails (tails e))))
row_tells_answer (none_by_prime l) (none_by_prime m) e =
    ap none_by_prime (number_of l m (tails (tails (tails (tails (tails (tails (tails (tails e)))))))))
row_tells_answer (none_by_prime l) (refusal n) e = absurd (omega (arith, heads e))
row_tells_answer (refusal n) (point q) e = absurd (omega (arith, heads e))
row_tells_answer (refusal n) none_by_sign e = absurd (omega (arith, heads e))
row_tells_answer (refusal n) (none_by_prime l) e = absurd (omega (arith, heads e))
row_tells_answer (refusal n) (refusal m) e = ap refusal (number_of n m (tails (tails e)))
