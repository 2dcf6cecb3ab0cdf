-- `book::bytes::put_number` meets its contract: std's first N bytes of a number are its N lowest. Assumes nothing.
use native.Mathlib.Omega.{arith}
use Rattle.book.proofs.LittleEndian.{stored}
use Rattle.book.proofs.bytes.put_number.Goals as goal

pub returns : goal.returns
returns g c =
    stored c.args.book.now c.args.at g.row.N c.args.n c.requires.0 c.requires.1
    c.to_le_bytes.ensures c.copy_from_slice.ensures.after (omega arith)
