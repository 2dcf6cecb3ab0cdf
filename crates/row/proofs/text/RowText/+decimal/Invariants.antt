-- The measure of `row::text::RowText::decimal` is the number, which falls to its tenth. Assumes nothing.
use Rattle.row.proofs.text.RowText.+decimal.Given as goal

abbrev pub decreases-decimal : goal.decreases-decimal
decreases-decimal l = l.n
