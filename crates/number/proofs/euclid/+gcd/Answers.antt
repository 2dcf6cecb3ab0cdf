-- `number::euclid::gcd` meets its contract: its two branches are the two equations of `gcd_of`, and a remainder is
-- below the number that it is taken by. Assumes nothing.
use mathlib.Core.Path.{◌∙◌, sym, ap}
use Rattle.number.specs.Gcd.{gcd_of}
use Rattle.number.proofs.Gcd.{gcd_zero, gcd_remainder}
use Rattle.number.proofs.euclid.+gcd.Goals as goal

pub returns-then-b-eq0 : goal.returns-then-b-eq0
returns-then-b-eq0 t c = sym (ap (gcd_of c.args.a) c.if-b-eq0.true ∙ gcd_zero c.args.a)

pub returns-else-b-eq0 : goal.returns-else-b-eq0
returns-else-b-eq0 t c = c.gcd.ensures ∙ sym (gcd_remainder c.args.a c.args.b)
