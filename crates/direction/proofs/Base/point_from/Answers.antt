-- `direction::Base::point_from` meets its contract: the direction is handed over as the point (u, v, 0). Assumes nothing.
use mathlib.Core.Path.{◌≡◌, refl, sym, ap, subst, ◌∙◌}
use lib.IntN.{pos}
use mir.Syntax.{w64}
use mir.Val.{SFits, to_z, of_z}
use mir.Facts.{to_z-of_z}
use borrow.Author.Rules.{sfits_of}
use Rattle.point.specs.Normal.{normal, at_infinity}
use Rattle.point.specs.declared.Point.{Point}
use Rattle.point.specs.declared.Direction.{Direction}
use Rattle.point.proofs.Vector.{same_point}
use Rattle.conic.specs.Sizes.{ConicAlong}
use Rattle.conic.specs.Form.{drawn}
use Rattle.conic.specs.declared.conic.Conic.{Conic}
use Rattle.direction.specs.Direction.{point_from}
use Rattle.direction.proofs.Room.{along_direction}
use Rattle.direction.proofs.Base.point_from.Goals as goal

written_out : (t : Direction) → record { x = t.u; y = t.v; z = pos 0 } ≡ at_infinity t
unfolding at_infinity
written_out t = refl

in_words : (h : Conic) (p : Point) (t : Direction) → normal (drawn h p (at_infinity t)) ≡ point_from h p t
unfolding point_from
in_words h p t = refl

handed_over :
    (t : Direction) → SFits w64 t.u → SFits w64 t.v →
    record { x = to_z w64 (of_z w64 t.u); y = to_z w64 (of_z w64 t.v); z = pos 0 } ≡ at_infinity t
handed_over t u_fits v_fits =
    same_point (to_z-of_z {w = w64} u_fits) (to_z-of_z {w = w64} v_fits) refl ∙ written_out t

pub other_point-requires : goal.other_point-requires
other_point-requires c =
    subst (ConicAlong c.args.self.h c.args.self.p) (sym (handed_over c.args.t (search sfits_of) (search sfits_of)))
    (along_direction _ _ _ c.args.self.within c.requires)

pub returns : goal.returns
returns c =
    c.other_point.ensures
    ∙ ap (λ (t : Point). normal (drawn c.args.self.h c.args.self.p t)) (handed_over c.args.t (search sfits_of) (search sfits_of))
    ∙ in_words _ _ _
