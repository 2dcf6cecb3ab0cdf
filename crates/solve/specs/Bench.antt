-- The paper's starred bench examples: the list of conics, the list of their answers, and the one statement that solve gives the second
-- for the first. Assumes nothing.
use Rattle.std.specs.Prelude.{◌≡◌, List, [], ◌∷◌, map, ℕ, ℤ, pos, neg_ℤ}
use Rattle.point.specs.Paper.{Verdict, point, none_by_sign, none_by_prime}
use Rattle.conic.specs.declared.conic.Conic.{Conic}
use Rattle.solve.specs.Solve.{solve_of}

abbrev row : ℤ → ℤ → ℤ → ℤ → ℤ → ℤ → Conic
row a b c d e f = record { a = a; b = b; c = c; d = d; e = e; f = f }

abbrev at : ℤ → ℤ → ℤ → Verdict
at x y z = point (record { x = x; y = y; z = z })

-- −n
abbrev minus : ℕ → ℤ
minus n = neg_ℤ (pos n)

abbrev pub starred_conics : List Conic
starred_conics =
    row (pos 1) (pos 0) (pos 1) (pos 0) (pos 0) (minus 1) ∷
    row (pos 40) (pos 0) (pos 40) (pos 0) (pos 0) (minus 40) ∷
    row (pos 1) (pos 0) (pos 1) (pos 0) (pos 0) (minus 21) ∷
    row (pos 1) (pos 0) (pos 1) (pos 0) (pos 0) (pos 3) ∷
    row (pos 2) (pos 0) (pos 3) (pos 0) (pos 0) (minus 1) ∷
    row (pos 1) (pos 0) (minus 2) (pos 0) (pos 0) (minus 3) ∷
    row (pos 1) (pos 1) (pos 1) (pos 0) (pos 0) (minus 7) ∷
    row (pos 1) (pos 1) (pos 1) (pos 1) (pos 0) (minus 1) ∷
    row (pos 1) (pos 2) (pos 1) (pos 1) (pos 2) (minus 2) ∷
    row (pos 0) (pos 1) (pos 0) (pos 0) (pos 0) (minus 1) ∷
    row (pos 1) (pos 0) (pos 0) (pos 0) (minus 1) (pos 0) ∷
    []

abbrev pub starred_answers : List Verdict
starred_answers =
    at (pos 0) (pos 1) (pos 1) ∷
    at (pos 0) (pos 1) (pos 1) ∷
    none_by_prime 3 ∷
    none_by_sign ∷
    none_by_prime 3 ∷
    none_by_prime 3 ∷
    at (pos 1) (pos 2) (pos 1) ∷
    at (minus 4) (pos 5) (pos 3) ∷
    at (minus 2) (pos 2) (pos 1) ∷
    at (pos 1) (pos 1) (pos 1) ∷
    at (pos 0) (pos 0) (pos 1) ∷
    []

unfoldable pub StarredExamples : Type 0
StarredExamples = map solve_of starred_conics ≡ starred_answers
