-- `book::bytes::signed_below` meets its contract: at most 2³², both numbers are read as they are. Assumes nothing.
use Prim.Native.Nat.{◌*◌, ◌≤◌}
use native.Mathlib.Omega.{arith}
use borrow.Author.Tests.{lt-ltb, le-ltb}
use Rattle.whole.proofs.Signed.{casts, reads}
use Rattle.book.specs.Bytes.{signed_below}
use Rattle.book.proofs.bytes.signed_below.Goals as goal

pub returns-then-n-range : goal.returns-then-n-range
unfolding signed_below
returns-then-n-range c =
    let n : c.args.n ≤ 4_294_967_296 = omega arith in
    reads (search casts depth 60 fits 9999) tt (rw (lt-ltb (2 * c.args.n) c.args.range c.if-n-range.true))

pub returns-else-n-range : goal.returns-else-n-range
unfolding signed_below
returns-else-n-range c =
    let n : c.args.n ≤ 4_294_967_296 = omega arith in
    let range : c.args.range ≤ 4_294_967_296 = omega arith in
    reads (search casts depth 60 fits 9999) tt (rw (le-ltb (2 * c.args.n) c.args.range c.if-n-range.false))
