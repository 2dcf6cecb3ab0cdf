-- The two steps from a base undo each other up to the normal form of the direction: R drawn along a chord is a multiple of the
-- target, the chord to R is a multiple of the direction, and the base itself answers to the tangent. Assumes nothing.
use mathlib.Core.Path.{◌≡◌, refl, sym, ap, ◌∙◌, subst}
use mathlib.Core.Logic.{◌≢◌, ◌⊎◌, inl, inr}
use mathlib.Core.Bool.{true, false, cond}
use mathlib.Core.List.{[], ◌∷◌}
use lib.IntN.{ℤ, pos, neg_ℤ, ◌+ℤ◌, ◌-ℤ◌, ◌*ℤ◌, +ℤ_invr, *ℤ_comm, *ℤ-zero, neg_ℤ-neg_ℤ}
use Rattle.whole.proofs.Order.{≢-of-<ℤ}
use Rattle.whole.proofs.Ring.{by_ring, reify}
use Rattle.whole.proofs.Combination.{combine, ◌⊠◌}
use Rattle.whole.proofs.Cancel.{other_factor_zero, product_not_zero}
use Rattle.number.proofs.Least.{true_or_false, not_true_of_false}
use Rattle.point.specs.Normal.{normal, NormalForm, NormalDirection, at_infinity, normal_direction}
use Rattle.point.specs.declared.Point.{Point}
use Rattle.point.specs.declared.Direction.{Direction}
use Rattle.point.proofs.Vector.{scaled, Zero, zero_scaled}
use Rattle.point.proofs.Normal.{signed_factor, signed_factor_not_zero, factor_times_normal, normal_is_normal_form, normal_form_not_zero, normal_scaled, normal_of_normal_form, normal_forms_equal}
use Rattle.conic.specs.Form.{G, Gx, Gy, L, drawn}
use Rattle.conic.specs.declared.conic.Conic.{Conic}
use Rattle.conic.proofs.Form.{normal_on_iff}
use Rattle.conic.proofs.Drawn.{drawn_on}
use Rattle.direction.specs.Direction.{point_from, tangent, chord, is_same, direction_to}
use Rattle.direction.specs.Demand3.{OnConic, Based, Proper, Multiples}
use Rattle.direction.proofs.Directions.{multiple, proper_not_zero, at_infinity_normal, normal_direction_is_normal, normal_direction_is_proper, zero_multiple, multiples_iff, multiples_by}
use Rattle.direction.proofs.Drawing.{drawn_scaled, drawn_not_zero, drawn_along_tangent}
use Rattle.direction.proofs.Chords.{L-at-infinity, tangent_unseen, tangent_proper, chord_of_drawn, chord_scaled, proportional_of_chord, drawn_along_chord}
use Rattle.direction.proofs.Tests.{is_same_iff, is_same_not}

-- ---- the direction to a point

pub direction_to_base : (h : Conic) (p : Point) → direction_to h p p ≡ normal_direction (tangent h p)
unfolding direction_to
direction_to_base h p = ap (λ b. normal_direction (cond b (tangent h p) (chord p p))) (is_same_iff.1 refl)

pub direction_to_other : (h : Conic) (p q : Point) → q ≢ p → direction_to h p q ≡ normal_direction (chord p q)
unfolding direction_to
direction_to_other h p q f = ap (λ b. normal_direction (cond b (tangent h p) (chord p q))) (is_same_not f)

pub base_or_other : (p q : Point) → Dec (q ≡ p)
base_or_other p q = pick (true_or_false (is_same q p))
  where
    pick : (is_same q p ≡ true) ⊎ (is_same q p ≡ false) → Dec (q ≡ p)
    pick (inl e) = yes (is_same_iff.0 e)
    pick (inr e) = no λ same. not_true_of_false e (is_same_iff.1 same)

across : (u v m n : ℤ) → u *ℤ m +ℤ v *ℤ n ≡ pos 0 → n *ℤ v ≡ u *ℤ neg_ℤ m
across u v m n e =
    combine (pos 1 ⊠ e) (by_ring (u ∷ v ∷ m ∷ n ∷ []) (search reify depth 64 fits 9999) tt)

module _ (h : Conic) (p : Point) (base : Based h p) where
  plane : p.z ≢ pos 0
  plane e = ≢-of-<ℤ base.in_plane (sym e)

  -- ---- both directions are proper

  pub tangent_is_proper : Proper (tangent h p)
  tangent_is_proper = tangent_proper h p base.not_degenerate base.on_conic.on plane

  chord_is_proper : (q : Point) → NormalForm q → q ≢ p → Proper (chord p q)
  unfolding chord
  chord_is_proper q n f =
      record {
        not_both_zero = λ e. f (normal_forms_equal n base.on_conic.normal_form (proportional_of_chord p q plane e.0 e.1));
      }

  -- ---- from a direction to a point

  drawn_is_not_zero : (t : Direction) → Proper t → ¬ Zero (drawn h p (at_infinity t))
  drawn_is_not_zero t = drawn_not_zero h p t base.not_degenerate base.on_conic.on plane

  pub point_from_on : (t : Direction) → Proper t → OnConic h (point_from h p t)
  unfolding point_from
  point_from_on t proper =
      record {
        normal_form = normal_is_normal_form (drawn_is_not_zero t proper);
        on = (normal_on_iff h (drawn_is_not_zero t proper)).0 (drawn_on h p (at_infinity t) base.on_conic.on);
      }

  pub direction_to_normal : (q : Point) → OnConic h q → NormalDirection (direction_to h p q)
  direction_to_normal q on = pick (base_or_other p q)
    where
      pick : Dec (q ≡ p) → NormalDirection (direction_to h p q)
      pick (yes e) =
          subst NormalDirection (sym (direction_to_base h p) ∙ ap (direction_to h p) (sym e)) (normal_direction_is_normal tangent_is_proper)
      pick (no f) =
          subst NormalDirection (sym (direction_to_other h p q f)) (normal_direction_is_normal (chord_is_proper q on.normal_form f))

  -- only the normal form of a direction counts
  pub point_from_normal_direction : (t : Direction) → Proper t → point_from h p (normal_direction t) ≡ point_from h p t
  unfolding point_from
  point_from_normal_direction t proper =
      ap (λ v. normal (drawn h p v)) (at_infinity_normal t)
      ∙ sym (normal_scaled (s *ℤ s) (product_not_zero s≢0 s≢0) still_not_zero)
      ∙ ap normal (sym (drawn_scaled h p s (normal (at_infinity t))) ∙ ap (drawn h p) (factor_times_normal (at_infinity t)))
    where
      s : ℤ
      s = signed_factor (at_infinity t)

      s≢0 : s ≢ pos 0
      s≢0 = signed_factor_not_zero (proper_not_zero proper)

      still_not_zero : ¬ Zero (drawn h p (normal (at_infinity t)))
      still_not_zero =
          subst (λ v. ¬ Zero (drawn h p v)) (at_infinity_normal t)
          (drawn_is_not_zero (normal_direction t) (normal_direction_is_proper proper))

  -- ---- to a point and back

  along_multiple : (t : Direction) (q : Point) (k : ℤ) → Proper t → NormalForm q →
      drawn h p (at_infinity t) ≡ scaled k q → point_from h p t ≡ q
  unfolding point_from
  along_multiple t q k proper n e =
      ap normal e
      ∙ normal_scaled k (λ z. drawn_is_not_zero t proper (subst Zero (sym e) (zero_scaled q z))) (normal_form_not_zero n)
      ∙ normal_of_normal_form n

  pub point_from_tangent : point_from h p (tangent h p) ≡ p
  point_from_tangent =
      along_multiple (tangent h p) p (G h (at_infinity (tangent h p))) tangent_is_proper base.on_conic.normal_form
      (drawn_along_tangent h p (at_infinity (tangent h p)) (tangent_unseen h p))

  pub point_from_direction_to : (q : Point) → OnConic h q → point_from h p (direction_to h p q) ≡ q
  point_from_direction_to q on = pick (base_or_other p q)
    where
      pick : Dec (q ≡ p) → point_from h p (direction_to h p q) ≡ q
      pick (yes e) =
          ap (point_from h p) (ap (direction_to h p) e ∙ direction_to_base h p)
          ∙ point_from_normal_direction (tangent h p) tangent_is_proper
          ∙ point_from_tangent
          ∙ sym e
      pick (no f) =
          ap (point_from h p) (direction_to_other h p q f)
          ∙ point_from_normal_direction (chord p q) (chord_is_proper q on.normal_form f)
          ∙ along_multiple (chord p q) q (neg_ℤ (p.z *ℤ p.z *ℤ L h p q)) (chord_is_proper q on.normal_form f) on.normal_form
          (drawn_along_chord h p q base.on_conic.on on.on)

  -- ---- to a direction and back

  -- s·(the chord to the point) = −L(P, T)·z₀·T, where R is s times the point
  chord_back : (t : Direction) →
      multiple (signed_factor (drawn h p (at_infinity t))) (chord p (point_from h p t))
      ≡ multiple (neg_ℤ (L h p (at_infinity t) *ℤ p.z)) t
  unfolding point_from
  chord_back t =
      sym (chord_scaled p (signed_factor (drawn h p (at_infinity t))) (normal (drawn h p (at_infinity t))))
      ∙ ap (chord p) (factor_times_normal (drawn h p (at_infinity t))) ∙ chord_of_drawn h p t

  -- where the base comes back the direction is along the tangent
  tangent_if_base : (t : Direction) → Proper t → point_from h p t ≡ p → Multiples (tangent h p) t
  unfolding tangent chord
  tangent_if_base t proper e =
      record { cross = across t.u t.v (Gx h p) (Gy h p) (sym (L-at-infinity h p t) ∙ unseen) }
    where
      s : ℤ
      s = signed_factor (drawn h p (at_infinity t))

      l : ℤ
      l = L h p (at_infinity t)

      back : multiple s (chord p p) ≡ multiple (neg_ℤ (l *ℤ p.z)) t
      back = ap (λ q. multiple s (chord p q)) (sym e) ∙ chord_back t

      nothing : (m : ℤ) → s *ℤ (m *ℤ p.z -ℤ m *ℤ p.z) ≡ pos 0
      nothing m = ap (λ c. s *ℤ c) (+ℤ_invr (m *ℤ p.z)) ∙ *ℤ-zero s

      no_multiple : neg_ℤ (l *ℤ p.z) ≡ pos 0
      no_multiple =
          zero_multiple proper
          (sym (ap (λ d. d.u) back) ∙ nothing p.x)
          (sym (ap (λ d. d.v) back) ∙ nothing p.y)

      unseen : l ≡ pos 0
      unseen =
          other_factor_zero plane (*ℤ_comm p.z l ∙ sym (neg_ℤ-neg_ℤ (l *ℤ p.z)) ∙ ap neg_ℤ no_multiple)

  pub direction_to_point_from : (t : Direction) → Proper t → direction_to h p (point_from h p t) ≡ normal_direction t
  direction_to_point_from t proper = pick (base_or_other p (point_from h p t))
    where
      q : Point
      q = point_from h p t

      s≢0 : signed_factor (drawn h p (at_infinity t)) ≢ pos 0
      s≢0 = signed_factor_not_zero (drawn_is_not_zero t proper)

      pick : Dec (q ≡ p) → direction_to h p q ≡ normal_direction t
      pick (yes e) =
          ap (direction_to h p) e ∙ direction_to_base h p ∙ (multiples_iff tangent_is_proper proper).0 (tangent_if_base t proper e)
      pick (no f) =
          direction_to_other h p q f
          ∙ (multiples_iff (chord_is_proper q (point_from_on t proper).normal_form f) proper).0
          (multiples_by (signed_factor (drawn h p (at_infinity t))) (neg_ℤ (L h p (at_infinity t) *ℤ p.z)) s≢0 (chord_back t))
