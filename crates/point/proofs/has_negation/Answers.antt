-- `point::has_negation` meets its contract: every 64-bit number above −2⁶³ is at most the largest in size. Assumes nothing.
use mathlib.Core.Path.{◌≡◌, refl, sym, ap, ◌∙◌}
use native.Mathlib.Nat.{le_of_suc-le-suc}
use lib.IntN.{ℤ, pos, negsuc}
use lib.Signed.{lt_z}
use mir.Syntax.{w64}
use mir.Val.{SFits}
use mir.Facts.{to_z-of_z}
use borrow.Author.Tests.{le-leb}
use Rattle.point.specs.Normal.{largest}
use Rattle.point.specs.Paper.{within}
use Rattle.point.proofs.has_negation.Goals as goal

above_lowest : (n : ℤ) → SFits w64 n → lt_z (negsuc largest) n ≡ within largest n
unfolding within
above_lowest (pos n) h = sym (le-leb n largest (le_of_suc-le-suc h.sfits))
above_lowest (negsuc n) h = refl

pub returns : goal.returns
returns c = ap (lt_z (negsuc largest)) (to_z-of_z c.ranges.n) ∙ above_lowest c.args.n c.ranges.n
