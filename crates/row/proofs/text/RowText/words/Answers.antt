-- `row::text::RowText::words` meets its contract: a byte more in the buffer is a byte more of the words. Assumes
-- nothing.
use Rattle.row.proofs.Buffer.{one_more}
use Rattle.row.proofs.text.RowText.words.Goals as goal

pub loop-b-preserved : goal.loop-b-preserved
loop-b-preserved c = one_more c.args.words.now c.loop-b.b-index c.loop-b-test.true c.loop-b.invariant c.byte.ensures
