-- Each cause gives its number and a legal base is judged legal, and every conic with its base is legal or has a cause
-- for what it is judged, test by test. Assumes nothing.
use mathlib.Core.Path.{◌≡◌, sym, subst}
use mathlib.Core.Bool.{Bool, false}
use Prim.Native.Nat.{ℕ}
use lib.Dec.{T}
use Rattle.number.proofs.Least.{true_of_T, T-of-true, false_of_not_true, not_true_of_false}
use Rattle.point.specs.Legal.{is_base}
use Rattle.point.specs.Paper.{is_zero}
use Rattle.point.specs.declared.Point.{Point}
use Rattle.point.proofs.Cases.{cond_cases}
use Rattle.point.proofs.Tests.{is_zero_iff, is_zero_not, not_zero_of_false}
use Rattle.conic.specs.Base.{in_range, from_base, Judgement, legal, refused, judged_of, LegalBase}
use Rattle.conic.specs.Form.{G, Δ}
use Rattle.conic.specs.Refusals.{LegalConic, BaseCause, out_of_range, degenerate, no_base, base_off, JudgeRefusesExactly, LegalExactly}
use Rattle.conic.specs.declared.conic.Conic.{Conic}
use Rattle.conic.proofs.Legal.{judged_range, judged_degenerate, judged_base, judged_off, judged_legal}

pub fails : {t : Bool} → ¬ T t → t ≡ false
fails f = false_of_not_true (λ e. f (T-of-true e))

pub refutes : {t : Bool} → t ≡ false → ¬ T t
refutes {t} e h = not_true_of_false e (true_of_T t h)

module _ (h : Conic) (p : Point) where
  pub is_judged : LegalBase h p → legal ≡ judged_of h p
  is_judged l =
      judged_legal h p (true_of_T _ l.in_range) (is_zero_not l.not_degenerate) (true_of_T _ l.legal)
      (is_zero_iff.1 l.on)

  pub is_refused : {n : ℕ} → BaseCause h p n → refused n ≡ judged_of h p
  is_refused (out_of_range out) = judged_range h p (fails out)
  is_refused (degenerate ranged flat) = judged_degenerate h p (true_of_T _ ranged) (is_zero_iff.1 flat)
  is_refused (no_base conic none) =
      judged_base h p (true_of_T _ conic.in_range) (is_zero_not conic.not_degenerate) (fails none)
  is_refused (base_off conic base off) =
      judged_off h p (true_of_T _ conic.in_range) (is_zero_not conic.not_degenerate) (true_of_T _ base)
      (is_zero_not off)

  -- what a judgement tells
  abbrev pub Reason : Judgement → Type 0
  Reason legal = LegalBase h p
  Reason (refused n) = BaseCause h p n

  pub reason : Reason (judged_of h p)
  unfolding judged_of from_base
  reason =
      cond_cases Reason (in_range h)
      (λ ranged. cond_cases Reason (is_zero (Δ h)) (λ flat. degenerate (T-of-true ranged) (is_zero_iff.0 flat))
      (λ curved.
      let conic : LegalConic h = record { in_range = T-of-true ranged; not_degenerate = not_zero_of_false curved } in
      cond_cases Reason (is_base p)
      (λ base. cond_cases Reason (is_zero (G h p))
      (λ on. record {
        in_range = conic.in_range;
        not_degenerate = conic.not_degenerate;
        legal = T-of-true base;
        on = is_zero_iff.0 on;
      })
      (λ off. base_off conic (T-of-true base) (not_zero_of_false off)))
      (λ none. no_base conic (refutes none))))
      (λ out. out_of_range (refutes out))

pub judge_refuses_exactly : JudgeRefusesExactly
unfolding JudgeRefusesExactly
judge_refuses_exactly h p n = (λ e. subst (Reason h p) e (reason h p), λ c. sym (is_refused h p c))

pub legal_exactly : LegalExactly
unfolding LegalExactly
legal_exactly h p = (λ e. subst (Reason h p) e (reason h p), λ l. sym (is_judged h p l))
