-- A text of more than 47 bytes is no row: a number has seven bytes at most, and a row of six has five spaces between.
-- Assumes nothing.
use Rattle.std.proofs.Common.{ℕ, ◌+◌, ◌*◌, ◌≤◌, List, ◌∷◌, length, length-append, arith}
use Rattle.std.specs.Prelude.{ℤ}
use Rattle.row_reader.specs.Reading.{space}
use Rattle.row_reader.specs.Grammar.{Number, plain, after_minus, Numbers, last, then, ReadRefusesExactly}
use Rattle.row_reader.specs.Theorems.{LongTextIsNoRow}
use Rattle.row_reader.proofs.Grammar.{read_refuses_exactly}

number_short : {text : List ℕ} {n : ℤ} → Number text n → length text ≤ 7
number_short (plain h) = omega (arith, h.at_most_six)
number_short (after_minus h) = omega (arith, h.at_most_six)

numbers_short : {text : List ℕ} {ns : List ℤ} → Numbers text ns → length text + 1 ≤ 8 * length ns
numbers_short (last h) = omega (arith, number_short h)
numbers_short (then {text} {rest} h more) =
    omega (arith, length-append text (space ∷ rest), number_short h, numbers_short more)

pub long_text_is_no_row : LongTextIsNoRow
unfolding LongTextIsNoRow ReadRefusesExactly
long_text_is_no_row text h = (read_refuses_exactly text).1 (λ conic s. omega (arith, numbers_short s))
