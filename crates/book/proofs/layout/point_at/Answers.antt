-- `book::layout::point_at` meets its contract: each call of the closure gives the element at its place. Assumes nothing.
use lib.IntN.{pos}
use Rattle.std.proofs.Common.{rules}
use Rattle.point.proofs.Vector.{same_point}
use Rattle.book.specs.Layout.{point_at}
use Rattle.book.proofs.layout.point_at.Goals as goal

pub returns : goal.returns
unfolding point_at
returns c =
    let (p, x, x_at, x_is, after_x) = c.from_fn.ensures.items.each in
    let (q, y, y_at, y_is, after_y) = after_x in
    let (r, z, z_at, z_is, end) = after_y in
    rw (x_at.1 (pos 0)) (rw (y_at.1 (pos 0)) (rw (z_at.1 (pos 0)) (search (same_point, rules))))
