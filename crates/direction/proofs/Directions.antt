-- Directions as points at infinity: a direction's normal form is that of its point, and two directions that are not (0, 0) are
-- multiples of each other exactly if their normal forms are equal. Assumes nothing.
use mathlib.Core.Path.{◌≡◌, refl, sym, ap, ◌∙◌, subst}
use mathlib.Core.Logic.{◌≢◌, ◌↔◌}
use mathlib.Core.List.{[], ◌∷◌}
use lib.IntN.{ℤ, pos, neg_ℤ, ◌*ℤ◌, ℤ_discrete, *ℤ-zero}
use Rattle.whole.proofs.Ring.{by_ring, reify}
use Rattle.whole.proofs.Combination.{combine, ◌⊞◌, ◌⊠◌}
use Rattle.whole.proofs.Products.{*ℤ_cancel}
use Rattle.whole.proofs.Cancel.{other_factor_zero}
use Rattle.point.specs.Normal.{normal, NormalForm, at_infinity, normal_direction, NormalDirection}
use Rattle.point.specs.declared.Direction.{Direction}
use Rattle.point.proofs.Vector.{same_point, Zero, Proportional}
use Rattle.point.proofs.Normal.{normal_is_normal_form, normal_form_not_zero, normal_of_normal_form, normal_equal_iff, normal_at_infinity}
use Rattle.direction.specs.Demand3.{Proper, Multiples}

-- k·T
abbrev pub multiple : ℤ → Direction → Direction
multiple k t = record { u = k *ℤ t.u; v = k *ℤ t.v }

pub same_direction : {t t' : Direction} → t.u ≡ t'.u → t.v ≡ t'.v → t ≡ t'
same_direction e f = λ i. record { u = e i; v = f i }

pub same_at_infinity : {t t' : Direction} → at_infinity t ≡ at_infinity t' → t ≡ t'
unfolding at_infinity
same_at_infinity e = same_direction (ap (λ p. p.x) e) (ap (λ p. p.y) e)

-- ---- not (0, 0)

pub proper_not_zero : {t : Direction} → Proper t → ¬ Zero (at_infinity t)
unfolding at_infinity
proper_not_zero proper (a, b, c) = proper.not_both_zero (a, b)

pub proper_of_not_zero : {t : Direction} → ¬ Zero (at_infinity t) → Proper t
unfolding at_infinity
proper_of_not_zero f = record { not_both_zero = λ e. f (e.0, e.1, refl) }

pub normal_direction_proper : {t : Direction} → NormalDirection t → Proper t
normal_direction_proper n = proper_of_not_zero (normal_form_not_zero n)

-- a number whose multiple of a proper direction is (0, 0)
pub zero_multiple : {k : ℤ} {t : Direction} → Proper t → k *ℤ t.u ≡ pos 0 → k *ℤ t.v ≡ pos 0 → k ≡ pos 0
zero_multiple {k} proper e f = pick (ℤ_discrete k (pos 0))
  where
    pick : Dec (k ≡ pos 0) → k ≡ pos 0
    pick (yes z) = z
    pick (no g) = absurd (proper.not_both_zero (other_factor_zero g e, other_factor_zero g f))

-- ---- normal form

pub at_infinity_normal : (t : Direction) → at_infinity (normal_direction t) ≡ normal (at_infinity t)
unfolding at_infinity normal_direction
at_infinity_normal t = same_point refl refl (sym (normal_at_infinity (at_infinity t) refl))

pub normal_direction_is_normal : {t : Direction} → Proper t → NormalDirection (normal_direction t)
normal_direction_is_normal {t} proper =
    subst NormalForm (sym (at_infinity_normal t)) (normal_is_normal_form (proper_not_zero proper))

pub normal_direction_is_proper : {t : Direction} → Proper t → Proper (normal_direction t)
normal_direction_is_proper proper = normal_direction_proper (normal_direction_is_normal proper)

pub normal_direction_of_normal : {t : Direction} → NormalDirection t → normal_direction t ≡ t
normal_direction_of_normal {t} n = same_at_infinity (at_infinity_normal t ∙ normal_of_normal_form n)

-- ---- multiples of each other

proportional_iff : {t t' : Direction} → Multiples t t' ↔ Proportional (at_infinity t) (at_infinity t')
unfolding at_infinity
proportional_iff {t} {t'} = (
  λ m.
      record {
        x_y = m.cross;
        x_z = *ℤ-zero t.u ∙ sym (*ℤ-zero t'.u);
        y_z = *ℤ-zero t.v ∙ sym (*ℤ-zero t'.v);
      },
  λ r. record { cross = r.x_y },
)

pub multiples_iff : {t t' : Direction} → Proper t → Proper t' → Multiples t t' ↔ (normal_direction t ≡ normal_direction t')
multiples_iff {t} {t'} f g = (
  λ m. same_at_infinity (at_infinity_normal t ∙ equal.1 (proportional_iff.0 m) ∙ sym (at_infinity_normal t')),
  λ e. proportional_iff.1 (equal.0 (sym (at_infinity_normal t) ∙ ap at_infinity e ∙ at_infinity_normal t')),
)
  where
    equal : (normal (at_infinity t) ≡ normal (at_infinity t')) ↔ Proportional (at_infinity t) (at_infinity t')
    equal = normal_equal_iff (proper_not_zero f) (proper_not_zero g)

-- a direction with a multiple that is a multiple of another
pub multiples_by : {t t' : Direction} (k l : ℤ) → k ≢ pos 0 → multiple k t ≡ multiple l t' → Multiples t t'
multiples_by {t} {t'} k l f e =
    record {
      cross =
          *ℤ_cancel k f
          (combine (t'.v ⊠ ap (λ d. d.u) e ⊞ neg_ℤ t'.u ⊠ ap (λ d. d.v) e)
          (by_ring (k ∷ l ∷ t.u ∷ t.v ∷ t'.u ∷ t'.v ∷ []) (search reify depth 64 fits 9999) tt));
    }
