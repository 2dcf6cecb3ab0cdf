-- `book_reader::Body::is_right` meets its contract: what its content says is judged as its kind says. Assumes nothing.
use mathlib.Core.Path.{◌≡◌, refl, ap, ◌∙◌}
use Rattle.std.specs.Prelude.{Bool, Ok, Err}
use Rattle.std.specs.Result.{result_eq}
use Rattle.point.specs.declared.Point.{Point}
use Rattle.point.specs.declared.paper.Refusal.{Refusal}
use Rattle.legendre.specs.declared.outcome.Reason.{Reason}
use Rattle.conic.specs.declared.conic.Conic.{Conic}
use Rattle.solve.specs.Solve.{solve_of}
use Rattle.solve.specs.Answer.{Solved, solved}
use Rattle.book.specs.Reader.{is_none_by_sign, is_none_by_prime, stored_reason}
use Rattle.book.proofs.BodyKinds.{said_right, right_said}
use Rattle.legendre.specs.contracts.outcome.ReasonPartialEq.TheImpl as reasons
use Rattle.book_reader.proofs.Body.is_right.Goals as goal

-- solve's answer is a none for a reason exactly if that reason, said of the conic, is right
none_right :
    (p : Point → Point → Bool) (q : Refusal → Refusal → Bool) (h : Conic) (r : Solved) (e : Reason) → solved r ≡ solve_of h →
    result_eq (result_eq p reasons.eq-value.it) q r (Ok (Err e)) ≡ said_right (stored_reason h e)
none_right p q h (Ok (Ok a)) Reason.Sign is = ap is_none_by_sign is
none_right p q h (Ok (Ok a)) (Reason.Prime l) is = ap (is_none_by_prime l) is
none_right p q h (Ok (Err Reason.Sign)) Reason.Sign is = ap is_none_by_sign is
none_right p q h (Ok (Err Reason.Sign)) (Reason.Prime l) is = ap (is_none_by_prime l) is
none_right p q h (Ok (Err (Reason.Prime m))) Reason.Sign is = ap is_none_by_sign is
none_right p q h (Ok (Err (Reason.Prime m))) (Reason.Prime l) is = ap (is_none_by_prime l) is
none_right p q h (Err s) Reason.Sign is = ap is_none_by_sign is
none_right p q h (Err s) (Reason.Prime l) is = ap (is_none_by_prime l) is

pub returns-in-Some-Ok : goal.returns-in-Some-Ok
returns-in-Some-Ok c =
    let said = rw c.in-Some-Ok.is at c.in-Some-Ok.field-0-is in
    c.is_right_point.ensures ∙ rw c.in-Some-Ok.is (rw said refl) ∙ right_said _ _ _ _ c.args.self.now.kind c.content-stored.ensures

pub returns-in-Some-Err : goal.returns-in-Some-Err
returns-in-Some-Err c =
    let said = rw c.in-Some-Err.is at c.in-Some-Err.field-0-is in
    c.eq.ensures
    ∙ rw c.in-Some-Err.is (rw said (none_right _ _ _ c.solve.result c.in-Some-Err.reason c.solve.ensures.as_defined)) ∙ right_said _ _ _ _ c.args.self.now.kind c.content-stored.ensures

pub returns-in-None : goal.returns-in-None
returns-in-None c =
    c.is_degenerate.ensures ∙ rw c.in-None.is refl ∙ right_said _ _ _ _ c.args.self.now.kind c.content-stored.ensures
