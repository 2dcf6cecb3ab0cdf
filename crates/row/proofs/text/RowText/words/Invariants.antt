-- What the loop of `row::text::RowText::words` keeps: the words passed are written. Assumes nothing.
use Rattle.std.proofs.Common.{take}
use Rattle.row.specs.Buffer.{Wrote}
use Rattle.row.proofs.text.RowText.words.Given as goal

abbrev pub invariant-loop-b : goal.invariant-loop-b
invariant-loop-b l = Wrote (take l.b-index l.words) l.initial.self l.self
