-- `book_writer::put_conic` meets its contract: what solve answers is the definition's verdict on the conic of the
-- list, and its point fits. Assumes nothing.
use mathlib.Core.Path.{◌≡◌, sym, ap, subst, ◌∙◌}
use Prim.Native.Nat.{◌+◌, ◌≤◌}
use native.Mathlib.Omega.{arith}
use lib.ListN.{length}
use Rattle.point.specs.Paper.{Verdict}
use Rattle.solve.specs.Answer.{solved}
use Rattle.solve.specs.Solve.{solve_of}
use Rattle.solve.proofs.Answers.{point_fits}
use Rattle.book.specs.Kinds.{kind_number}
use Rattle.book.specs.Layout.{body_length, kind_of, conic_at}
use Rattle.book.proofs.Laid.{conic_stored}
use Rattle.book.proofs.Lengths.{length_added}
use Rattle.book_writer.proofs.put_conic.Goals as goal

pub put_body-requires : goal.put_body-requires
put_body-requires c =
    let h = conic_at c.args.six.now 0 in
    let v = solved c.args.answer in
    let verdict : v ≡ solve_of h = c.requires.0 in
    let fits = λ (w : Verdict). c.args.offset + body_length (kind_of w) ≤ length c.args.book.now in
    let room : c.args.offset + body_length (kind_of v) ≤ length c.args.book.now =
    subst fits (sym verdict) c.requires.1.body_room in
    record {
      room = omega (arith, room, length_added v, c.put_entry.auto.book);
      point_fits = λ p e. point_fits h p (sym verdict ∙ e);
    }

pub returns : goal.returns
returns c =
    let h = conic_at c.args.six.now 0 in
    let verdict : solved c.args.answer ≡ solve_of h =
    c.requires.0 in
    let kind : kind_number c.kind_of-kind.result ≡ kind_of (solve_of h) = c.kind_of-kind.ensures ∙ ap kind_of verdict in
    record {
      book =
          conic_stored c.args.book.now c.put_entry.new.book c.put_body.new.book c.args.entry
          c.args.offset h kind verdict c.put_entry.ensures c.put_body.ensures;
      next = ap (◌+◌ c.args.offset) (c.body_length.ensures ∙ ap body_length kind);
    }
