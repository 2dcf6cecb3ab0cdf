-- `solve::Curve::from_infinity` meets its contract, call by call. Assumes nothing.
use mathlib.Core.Path.{◌≡◌, sym, ap, subst, ◌∙◌}
use Rattle.point.specs.Normal.{normal}
use Rattle.point.specs.declared.Point.{Point}
use Rattle.point.specs.Paper.{point_limit}
use Rattle.point.specs.Sizes.{PointWithin}
use Rattle.conic.specs.Sizes.{ConicAlong}
use Rattle.conic.specs.Form.{drawn}
use Rattle.conic.specs.declared.conic.Conic.{Conic}
use Rattle.solve.specs.Solve.{start_at_infinity, trial_line, from_infinity}
use Rattle.solve.proofs.Carrying.{start_in_limit, from_start}
use Rattle.solve.proofs.Curve.from_infinity.Goals as goal

drawn_from_start : (h : Conic) {s t r : Point} → s ≡ start_at_infinity h → t ≡ trial_line h s → r ≡ normal (drawn h s t) → r ≡ from_infinity h
unfolding from_infinity
drawn_from_start h {s} s-is t-is r-is =
    r-is ∙ ap (λ (t : Point). normal (drawn h s t)) t-is ∙ ap (λ (s : Point). normal (drawn h s (trial_line h s))) s-is

pub trial_line-requires : goal.trial_line-requires
trial_line-requires c =
    subst (PointWithin point_limit) (sym c.start-s.ensures) (start_in_limit c.args.self.h c.args.self.in_limit)

pub other_point-requires : goal.other_point-requires
other_point-requires c =
    let h = c.args.self.h in
    subst (ConicAlong h c.start-s.result) (sym c.trial_line.ensures)
    (subst (λ (s : Point). ConicAlong h s (trial_line h s)) (sym c.start-s.ensures) (from_start h c.args.self.in_limit))

pub returns : goal.returns
returns c = drawn_from_start c.args.self.h c.start-s.ensures c.trial_line.ensures c.other_point.ensures
