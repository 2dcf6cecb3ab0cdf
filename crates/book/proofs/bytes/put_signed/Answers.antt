-- `book::bytes::put_signed` meets its contract: the four lowest bytes are those of 64 bits. Assumes nothing.
use mathlib.Core.Path.{ap, ◌∙◌}
use Prim.Native.Nat.{ℕ}
use lib.Seq.{sets}
use mir.Facts.{to_z-of_z}
use mir.Syntax.{w64}
use mir.Val.{of_z}
use Rattle.book.specs.Bytes.{bytes}
use Rattle.book.proofs.SignedBytes.{lowest_four}
use Rattle.book.proofs.bytes.put_signed.Goals as goal

pub returns : goal.returns
returns c =
    c.put_number.ensures
    ∙ ap (λ (m : ℕ). sets c.args.book.now c.args.at (bytes 4 m)) (c.cast_unsigned.ensures ∙ ap (of_z w64) (to_z-of_z c.ranges.n))
    ∙ ap (sets c.args.book.now c.args.at) (lowest_four c.args.n c.requires.1)
