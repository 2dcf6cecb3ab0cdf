-- `book::layout::conic_at` meets its contract: each call of the closure gives the element at its place. Assumes nothing.
use lib.IntN.{pos}
use Rattle.std.proofs.Common.{rules}
use Rattle.book.specs.Layout.{conic_at}
use Rattle.book.proofs.Fields.{same_conic}
use Rattle.book.proofs.LittleEndian.{number_one}
use Rattle.book.proofs.layout.conic_at.Goals as goal

pub returns : goal.returns
unfolding conic_at
returns c' =
    let (p0, a, a_at, a_is, after_a) = c'.from_fn.ensures.items.each in
    let (p1, b, b_at, b_is, after_b) = after_a in
    let (p2, c, c_at, c_is, after_c) = after_b in
    let (p3, d, d_at, d_is, after_d) = after_c in
    let (p4, e, e_at, e_is, after_e) = after_d in
    let (p5, f, f_at, f_is, end) = after_e in
    rw (a_at.1 (pos 0)) (rw (b_at.1 (pos 0)) (rw (c_at.1 (pos 0)) (rw (d_at.1 (pos 0)) (rw (e_at.1 (pos 0)) (rw (f_at.1 (pos 0))
    (search (same_conic, number_one, rules)))))))
