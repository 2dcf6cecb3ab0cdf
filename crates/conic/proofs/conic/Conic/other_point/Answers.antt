-- `conic::conic::Conic::other_point` meets its contract: what is drawn fits, so that the machine's normal form is the normal form.
-- Assumes nothing.
use mathlib.Core.Path.{ap, ◌∙◌}
use mir.Syntax.{w64}
use mir.Val.{SFits}
use borrow.Author.Rules.{sfits_of}
use Rattle.point.specs.Normal.{normal_within}
use Rattle.point.proofs.Limits.{normal_passed, normal_within_is_normal}
use Rattle.conic.proofs.Bounds.{drawn_fits}
use Rattle.conic.proofs.conic.Conic.other_point.Goals.{After-drawn-p}
use Rattle.conic.proofs.conic.Conic.other_point.Goals as goal

z_fits : (c : After-drawn-p) → SFits w64 c.drawn-p.result.z
z_fits c = search sfits_of

pub returns : goal.returns
returns c =
    let after = c.before.before.before.before in
    let start = after.before in
    normal_passed after.drawn-p.result (search sfits_of) (search sfits_of) (z_fits after) c.normal.ensures
    ∙ ap normal_within after.drawn-p.ensures
    ∙ normal_within_is_normal (drawn_fits start.args.self start.args.s start.args.t start.requires)
