-- A book that is accepted holds only true verdicts: a right body's content is true of its conic, by demand 2. Assumes nothing.
use mathlib.Core.Bool.{false}
use mathlib.Core.List.{List}
use mathlib.Core.Path.{◌≡◌, sym, ap, subst}
use Prim.Native.Nat.{ℕ, ◌+◌}
use lib.Dec.{T}
use lib.IntN.{pos}
use Rattle.number.proofs.Least.{true_of_T, not_true_of_false}
use Rattle.point.specs.Paper.{none_by_prime}
use Rattle.conic.specs.Form.{Δ}
use Rattle.conic.specs.Base.{in_range}
use Rattle.conic.specs.declared.conic.Conic.{Conic}
use Rattle.solve.specs.Demand2.{NonDegenerate, HasPoint, PointExactly, RightPoint, OneSignEverywhere, SignExactly}
use Rattle.solve.specs.Solve.{solve_of}
use Rattle.solve.proofs.Demand2.{is_point, point_exactly, sign_exactly}
use Rattle.solve.proofs.Answers.{is_refusal, answered}
use Rattle.book.specs.Layout.{conic_at, point_at}
use Rattle.book.specs.Reader.{ReaderAnswer, with_point, with_none_by_sign, with_none_by_prime, degenerate, no_entry, content_of, reader_answer}
use Rattle.book.specs.Theorems.{RightBody, right_point, right_sign, right_prime, right_degenerate, TrueOf, AcceptedIsTrue}
use Rattle.book.proofs.LegalPoints.{legal_is_right}
use Rattle.book.proofs.Refusals.{Way, twelve, thirteen, sixteen, content, way, bodies_right}

-- a none is true of all rationals
no_point : (h : Conic) → is_point (solve_of h) ≡ false → NonDegenerate h → ¬ HasPoint h
unfolding PointExactly
no_point h none ok found = let (p, given) = (point_exactly h ok).1 found in not_true_of_false none (ap is_point given)

-- ---- what an answer says of its own conic

abbrev Holds : ReaderAnswer → Type 0
Holds (with_point h p) = NonDegenerate h × RightPoint h p
Holds (with_none_by_sign h) = NonDegenerate h × OneSignEverywhere h × (¬ HasPoint h)
Holds (with_none_by_prime h l) = NonDegenerate h × (solve_of h ≡ none_by_prime l) × (¬ HasPoint h)
Holds (degenerate h) = T (in_range h) × (Δ h ≡ pos 0)
Holds (no_entry n) = Unit {0}

true_of : {h : Conic} {r : ReaderAnswer} → Holds r → TrueOf h r
true_of holds =
    record {
      point_on = λ p e. subst Holds e holds;
      none_by_sign_true = λ e. subst Holds e holds;
      none_by_prime_true = λ l e. subst Holds e holds;
      degenerate_true = λ e. subst Holds e holds;
    }

right_holds : {book : List ℕ} {at kind : ℕ} → RightBody book at kind → Holds (content_of kind book at)
unfolding content_of SignExactly
right_holds {book} {at} (right_point ok base on) = (ok, legal_is_right (conic_at book at) (point_at book (at + 6)) (true_of_T _ base) on)
right_holds {book} {at} (right_sign e) =
    let h = conic_at book at in
    let ok = answered h (ap is_refusal e) in
    (ok, (sign_exactly h ok).0 e, no_point h (ap is_point e) ok)
right_holds {book} {at} (right_prime e) =
    let h = conic_at book at in
    let ok = answered h (ap is_refusal e) in
    (ok, e, no_point h (ap is_point e) ok)
right_holds (right_degenerate range zero) = (range, zero)

pub accepted_is_true : AcceptedIsTrue
unfolding AcceptedIsTrue
accepted_is_true book i h = true_of (by (way book i))
  where
    by : Way book i → Holds (reader_answer book i)
    by (twelve broken own) = subst Holds (sym own) tt
    by (thirteen layout wrong own) = subst Holds (sym own) tt
    by (sixteen layout bodies above own) = subst Holds (sym own) tt
    by (content layout bodies below own) = subst Holds (sym own) (right_holds (bodies_right book bodies i below))
