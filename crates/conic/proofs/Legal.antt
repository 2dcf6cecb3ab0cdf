-- What a conic with its base is judged, test by test: each verdict is the one behind the tests that hold, and what passes is small
-- enough for the polynomials. Assumes nothing.
use mathlib.Core.Path.{◌≡◌, refl, sym, ap, subst, ◌∙◌}
use mathlib.Core.Bool.{Bool, true, false, cond}
use Prim.Native.Nat.{ℕ}
use Rattle.number.proofs.Least.{T-of-true, not_true_of_false, true_of_T}
use Rattle.point.specs.Legal.{is_base}
use Rattle.point.specs.Paper.{is_zero}
use Rattle.point.specs.declared.Point.{Point}
use Rattle.point.proofs.Cases.{cond_cases, when, unless}
use Rattle.point.proofs.Tests.{is_zero_iff}
use Rattle.point.proofs.Limits.{base_within}
use Rattle.conic.specs.Base.{LegalBase, from_base, Judgement, legal, refused, conic_judged, judged_of, in_range}
use Rattle.conic.specs.Form.{G, Δ}
use Rattle.conic.specs.Sizes.{ConicAt}
use Rattle.conic.specs.declared.conic.Conic.{Conic}
use Rattle.conic.proofs.Sizes.{in_limit}

-- ---- a conic alone

module _ (h : Conic) where
  pub conic_range : in_range h ≡ false → refused 1 ≡ conic_judged h
  unfolding conic_judged
  conic_range out = unless _ _ out

  pub conic_degenerate : in_range h ≡ true → is_zero (Δ h) ≡ true → refused 2 ≡ conic_judged h
  unfolding conic_judged
  conic_degenerate ranged flat = when _ _ flat ∙ when _ _ ranged

  pub conic_legal : in_range h ≡ true → is_zero (Δ h) ≡ false → legal ≡ conic_judged h
  unfolding conic_judged
  conic_legal ranged curved = unless _ _ curved ∙ when _ _ ranged

  pub conic_past : legal ≡ conic_judged h → (in_range h ≡ true) × (is_zero (Δ h) ≡ false)
  unfolding conic_judged
  conic_past e =
      cond_cases (λ j. legal ≡ j → (in_range h ≡ true) × (is_zero (Δ h) ≡ false)) (in_range h)
      (λ ranged. cond_cases (λ j. legal ≡ j → (in_range h ≡ true) × (is_zero (Δ h) ≡ false)) (is_zero (Δ h))
      (λ flat e. cc) (λ curved e. (ranged, curved))) (λ out e. cc) e

-- ---- the refusals that the direction entries share

module _ (h : Conic) (p : Point) where
  pub conic_refused : {n : ℕ} → refused n ≡ conic_judged h → refused n ≡ judged_of h p
  unfolding conic_judged judged_of from_base
  conic_refused {n} e =
      cond_cases (λ j. refused n ≡ j → refused n ≡ judged_of h p) (in_range h)
      (λ ranged. cond_cases (λ j. refused n ≡ j → refused n ≡ judged_of h p) (is_zero (Δ h))
      (λ flat e. e ∙ when _ _ flat ∙ when _ _ ranged) (λ curved e. cc)) (λ out e. e ∙ unless _ _ out) e

  pub judged_range : in_range h ≡ false → refused 1 ≡ judged_of h p
  unfolding judged_of from_base
  judged_range out = unless _ _ out

  pub judged_degenerate : in_range h ≡ true → is_zero (Δ h) ≡ true → refused 2 ≡ judged_of h p
  unfolding judged_of from_base
  judged_degenerate ranged flat = when _ _ flat ∙ when _ _ ranged

  pub judged_base : in_range h ≡ true → is_zero (Δ h) ≡ false → is_base p ≡ false → refused 5 ≡ judged_of h p
  unfolding judged_of from_base
  judged_base ranged curved no_base = unless _ _ no_base ∙ unless _ _ curved ∙ when _ _ ranged

  pub judged_off : in_range h ≡ true → is_zero (Δ h) ≡ false → is_base p ≡ true → is_zero (G h p) ≡ false → refused 6 ≡ judged_of h p
  unfolding judged_of from_base
  judged_off ranged curved base off = unless _ _ off ∙ when _ _ base ∙ unless _ _ curved ∙ when _ _ ranged

  pub judged_legal : in_range h ≡ true → is_zero (Δ h) ≡ false → is_base p ≡ true → is_zero (G h p) ≡ true → legal ≡ judged_of h p
  unfolding judged_of from_base
  judged_legal ranged curved base on = when _ _ on ∙ when _ _ base ∙ unless _ _ curved ∙ when _ _ ranged

  abbrev LegalIf : Judgement → Type 0
  LegalIf legal = LegalBase h p
  LegalIf (refused n) = Unit {0}

  legal_if : LegalIf (judged_of h p)
  unfolding judged_of from_base
  legal_if =
      cond_cases LegalIf (in_range h)
      (λ ranged. cond_cases LegalIf (is_zero (Δ h)) (λ flat. tt)
      (λ curved. cond_cases LegalIf (is_base p)
      (λ base. cond_cases LegalIf (is_zero (G h p))
      (λ on. record {
        in_range = T-of-true ranged;
        not_degenerate = λ e. not_true_of_false curved (is_zero_iff.1 e);
        legal = T-of-true base;
        on = is_zero_iff.0 on;
      })
      (λ off. tt)) (λ no_base. tt))) (λ out. tt)

  pub legal_base : legal ≡ judged_of h p → LegalBase h p
  legal_base e = subst LegalIf (sym e) legal_if

abbrev pub settled : {A : Type 0} → (ℕ → A) → A → Judgement → A
settled refuse next legal = next
settled refuse next (refused n) = refuse n

by_judgement : {A : Type 0} (refuse : ℕ → A) (next : A) (h : Conic) (p : Point) → settled refuse next (judged_of h p) ≡ from_base refuse h p next
unfolding judged_of from_base
by_judgement refuse next h p = go (in_range h) (is_zero (Δ h)) (is_base p) (is_zero (G h p))
  where
    go : (a b c d : Bool) →
        settled refuse next (cond a (cond b (refused 2) (cond c (cond d legal (refused 6)) (refused 5))) (refused 1))
        ≡ cond a (cond b (refuse 2) (cond c (cond d next (refuse 6)) (refuse 5))) (refuse 1)
    go false b c d = refl
    go true true c d = refl
    go true false false d = refl
    go true false true true = refl
    go true false true false = refl

pub settle : {A : Type 0} (refuse : ℕ → A) (next : A) {x : A} {j : Judgement} (h : Conic) (p : Point) → j ≡ judged_of h p → x ≡ settled refuse next j →
    x ≡ from_base refuse h p next
settle refuse next h p e f = f ∙ ap (settled refuse next) e ∙ by_judgement refuse next h p

-- ---- room for the polynomials

pub at_base : (h : Conic) (p : Point) → LegalBase h p → ConicAt h p
at_base h p l = record { conic = in_limit h l.in_range; point = base_within p (true_of_T (is_base p) l.legal) }
