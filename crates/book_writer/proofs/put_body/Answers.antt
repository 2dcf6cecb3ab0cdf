-- `book_writer::put_body` meets its contract: the list's bytes are the coefficients. Assumes nothing.
use native.Mathlib.Omega.{arith}
use Rattle.solve.specs.Answer.{solved}
use Rattle.book.proofs.Laid.{body_stored}
use Rattle.book_writer.proofs.put_body.Goals as goal

pub returns : goal.returns
returns c =
    body_stored c.args.six.now c.args.book.now c.args.at (solved c.args.answer) c.told-six c.fits-six (omega arith)
    c.copy.ensures c.put_added.ensures
