-- `book_reader::last_end` meets its contract: no body ends past 2 + 3·2000 + 18·2000. Assumes nothing.
use mathlib.Core.Path.{ap}
use Prim.Native.Nat.{ℕ, ◌+◌, ◌*◌}
use native.Mathlib.Omega.{arith}
use Rattle.book.specs.Reader.{bodies_end}
use Rattle.book.proofs.Contents.{end_at_most}
use Rattle.book_reader.proofs.last_end.Goals as goal

pub loop-i-init : goal.loop-i-init
unfolding bodies_end
loop-i-init c = (λ j h. absurd (omega arith), ap (λ (n : ℕ). 2 + 3 * n) c.requires.count_is)

pub body_end-requires : goal.body_end-requires
body_end-requires c =
    (omega arith, c.loop-i.invariant.1, omega (arith, c.loop-i.invariant.1, end_at_most c.args.book.now c.loop-i.i))
