-- `row::text::RowText::decimal` meets its contract: its two ways are the two equations of a decimal. Assumes nothing.
use Rattle.std.proofs.Common.{ℕ, ◌+◌, ◌/◌, ◌%◌, List, [], ◌∷◌}
use Rattle.row_reader.specs.Reading.{digit_zero}
use Rattle.row.specs.Writing.{decimal}
use Rattle.row.proofs.Buffer.{wrote_as, wrote_both, room_after}
use Rattle.row.proofs.Decimal.{decimal_large}
use Rattle.row.proofs.text.RowText.+decimal.Goals as goal

abbrev last_digit : ℕ → List ℕ
last_digit n = (digit_zero + n % 10) ∷ []

pub byte-requires-2 : goal.byte-requires-2
byte-requires-2 t c =
    let n = c.args.n in
    let room = rw (decimal_large n c.if-n-lt10.false) at c.requires in
    room_after (decimal (n / 10)) (last_digit n) c.decimal.ensures room

pub returns : goal.returns
returns t c = wrote_as (decimal_large _ c.if-n-lt10.false) (wrote_both c.decimal.ensures c.byte-2.ensures)
