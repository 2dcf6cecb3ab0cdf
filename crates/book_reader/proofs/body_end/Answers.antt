-- `book_reader::body_end` meets its contract: a byte is read as a kind exactly if it is 1 to 4. Assumes nothing.
use mathlib.Core.Path.{ap, ap₂, sym, ◌∙◌}
use Prim.Native.Nat.{◌+◌}
use native.Mathlib.Omega.{arith}
use Rattle.book.specs.Layout.{body_length}
use Rattle.book.proofs.BodyKinds.{kind_within, decoded}
use Rattle.book.proofs.Contents.{end_more}
use Rattle.book_reader.proofs.body_end.Goals as goal

pub returns-clause-some : goal.returns-clause-some
returns-clause-some c =
    let kind = decoded c.try_from.result c.try_from.ensures c.in_ok-kind.ensures.value in
    let within = kind_within c.in_ok-kind.kind in (
      record {
        kind_at_least = omega (arith, kind, within);
        kind_at_most = omega (arith, kind, within);
        offset = omega (arith, c.number_at.ensures.0);
      },
      ap₂ ◌+◌ c.requires.1 (c.body_length.ensures ∙ ap body_length kind) ∙ sym (end_more c.args.book.now c.args.i),
    )
