-- `book_reader::is_right_point` meets its contract: a base is judged legal exactly if the point is right. Assumes nothing.
use mathlib.Core.Path.{◌∙◌}
use Rattle.book.proofs.Judged.{judged_right}
use Rattle.book_reader.proofs.is_right_point.Goals as goal

pub returns : goal.returns
returns c = c.is_ok.ensures.value ∙ judged_right c.args.h c.args.p c.judge.result c.judge.ensures
