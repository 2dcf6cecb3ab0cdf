-- `solve::level::Level::carried_back` meets its contract: the point before the division is within the paper's limit, so the machine's
-- normal form is the normal form. Assumes nothing.
use mathlib.Core.Path.{◌≡◌, sym, ap, ◌∙◌, subst}
use lib.Dec.{lit≤}
use borrow.Author.Rules.{sfits_of}
use Rattle.legendre.specs.declared.outcome.Triple.{Triple}
use Rattle.point.specs.Normal.{normal_within}
use Rattle.point.specs.declared.Point.{Point}
use Rattle.point.proofs.Limits.{within_wider, normal_within_is_normal, normal_passed}
use Rattle.conic.specs.Sizes.{InLimit}
use Rattle.conic.specs.declared.conic.Conic.{Conic}
use Rattle.solve.specs.Level.{primed, from_primed, carried_back}
use Rattle.solve.specs.Sizes.{Carries, PrimedWithin}
use Rattle.solve.specs.declared.level.Level.{Level}
use Rattle.solve.proofs.Sizes.{from_primed_within}
use Rattle.solve.proofs.level.Level.carried_back.Goals as goal

back : {h : Conic} {v : Level} {m : Triple} {p r : Point} →
    InLimit h → Carries v m → p ≡ from_primed h (primed v m) → r ≡ normal_within p → r ≡ carried_back h v m
unfolding carried_back
back {h} {v} {m} small c e f =
    f ∙ ap normal_within e
    ∙ normal_within_is_normal (within_wider (lit≤ tt) (from_primed_within h (primed v m) small c.primed_within))

pub from_primed-p-requires : goal.from_primed-p-requires
from_primed-p-requires c = subst PrimedWithin (sym c.primed.ensures) c.requires.primed_within

pub returns : goal.returns
returns c =
    back c.args.curve.in_limit c.requires
    (c.from_primed-p.ensures ∙ ap (from_primed c.args.curve.h) c.primed.ensures)
    (normal_passed c.from_primed-p.result (search sfits_of) (search sfits_of) (search sfits_of) c.normal.ensures)
