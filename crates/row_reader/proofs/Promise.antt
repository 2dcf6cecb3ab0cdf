-- The promise of reading determines what is read. Assumes nothing.
use Rattle.std.proofs.Common.{◌≡◌, sym, ◌∙◌, ℕ, List}
use Rattle.std.specs.Prelude.{Option}
use Rattle.conic.specs.declared.conic.Conic.{Conic}
use Rattle.row_reader.specs.Reading.{read_row}

pub read_determined : (text : List ℕ) {r r' : Option Conic} → r ≡ read_row text → r' ≡ read_row text → r ≡ r'
read_determined text a b = a ∙ sym b
