-- `direction::Base::direction_to` meets its contract: the direction before the division fits, so that the machine's normal form is the
-- normal form. Assumes nothing.
use mathlib.Core.Path.{◌≡◌, refl, sym, ap, ◌∙◌}
use mathlib.Core.Bool.{cond}
use mir.Syntax.{w64}
use mir.Facts.{to_z-of_z}
use borrow.Author.Rules.{sfits_of}
use Rattle.point.specs.Normal.{largest, at_infinity, normal_direction, normal_direction_within}
use Rattle.point.specs.Sizes.{PointWithin}
use Rattle.point.specs.declared.Point.{Point}
use Rattle.point.specs.declared.Direction.{Direction}
use Rattle.point.proofs.Cases.{when, unless}
use Rattle.point.proofs.Limits.{normal_within_is_normal}
use Rattle.conic.specs.declared.conic.Conic.{Conic}
use Rattle.direction.specs.Direction.{is_same, tangent, chord, direction_to}
use Rattle.direction.proofs.Directions.{same_direction}
use Rattle.direction.proofs.Room.{toward_fits}
use Rattle.direction.proofs.Tests.{same_test}
use Rattle.direction.proofs.Base.direction_to.Goals.{then-eq, else-eq}
use Rattle.direction.proofs.Base.direction_to.Goals as goal

within_is_normal : (t : Direction) → PointWithin largest (at_infinity t) → normal_direction_within t ≡ normal_direction t
unfolding normal_direction_within normal_direction
within_is_normal t h = ap (λ (p : Point). record { u = p.x; v = p.y }) (normal_within_is_normal h)

in_words : (h : Conic) (p q : Point) → normal_direction (cond (is_same q p) (tangent h p) (chord p q)) ≡ direction_to h p q
unfolding direction_to
in_words h p q = refl

pub returns : goal.returns
returns c =
    let h = c.args.self.h in
    let p = c.args.self.p in
    let q = c.args.q in
    let t = c.if-eq.t in
    let toward : t ≡ cond (is_same q p) (tangent h p) (chord p q) =
    elim c.if-eq.branch [
      | then-eq w ↦ w.t-is ∙ w.tangent-t.ensures ∙ when _ _ (sym (same_test q p) ∙ sym w.if-eq.ensures)
      | else-eq w ↦ w.t-is ∙ w.chord-t.ensures ∙ unless _ _ (sym (same_test q p) ∙ sym w.if-eq.ensures)
    ] in
    c.normal.ensures
    ∙ ap normal_direction_within
    (same_direction (to_z-of_z {w = w64} {z = t.u} (search sfits_of)) (to_z-of_z {w = w64} {z = t.v} (search sfits_of)) ∙ toward)
    ∙ within_is_normal _ (toward_fits h p q c.args.self.within c.requires)
    ∙ in_words _ _ _
