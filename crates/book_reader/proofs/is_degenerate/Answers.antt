-- `book_reader::is_degenerate` meets its contract: Δ is only computed in range, where it fits. Assumes nothing.
use mathlib.Core.Bool.{◌&&◌}
use mathlib.Core.Path.{sym, ap, ◌∙◌}
use mir.Syntax.{w64}
use mir.Facts.{to_z-of_z}
use mir.Val.{of_z, to_z}
use borrow.Author.Tests.{eqb-true}
use Rattle.std.specs.Prelude.{nat_eq}
use Rattle.number.proofs.Least.{T-of-true}
use Rattle.point.specs.Paper.{is_zero}
use Rattle.conic.specs.Form.{Δ}
use Rattle.point.proofs.Cases.{by_test}
use Rattle.point.proofs.Tests.{is_zero_iff, is_zero_not}
use Rattle.conic.proofs.Sizes.{in_limit}
use Rattle.book_reader.proofs.is_degenerate.Goals as goal

pub determinant-requires : goal.determinant-requires
determinant-requires c = in_limit c.args.h (T-of-true (sym c.if-in_range.ensures))

pub returns-then-in_range : goal.returns-then-in_range
returns-then-in_range c =
    let n = c.determinant.result in
    let read = to_z-of_z {w = w64} (record { sfits = c.determinant.type_inv }) in
    by_test (nat_eq (of_z w64 n) 0)
    (λ e. e ∙ sym (is_zero_iff.1 (sym read ∙ ap (to_z w64) (eqb-true (of_z w64 n) 0 e))))
    (λ e. e ∙ sym (is_zero_not (λ f. let t = rw f at e in cc)))
    ∙ ap is_zero c.determinant.ensures ∙ ap (λ b. b && is_zero (Δ c.args.h)) c.if-in_range.ensures
