-- `point::size::is_zero` meets its contract: only 0 has the bits 0. Assumes nothing.
use mathlib.Core.Path.{◌≡◌, refl, sym, ◌∙◌}
use Prim.Native.Nat.{suc, ◌-◌, ◌^◌}
use native.Mathlib.Omega.{arith}
use lib.Dec.{eqb, eqb-suc-zero}
use lib.IntN.{ℤ, pos, negsuc}
use mir.Syntax.{w64}
use mir.Val.{SFits, of_z}
use borrow.Author.Tests.{ne_eqb}
use Rattle.point.specs.Paper.{is_zero}
use Rattle.point.proofs.size.is_zero.Goals as goal

zero_bits : (n : ℤ) → SFits w64 n → eqb (of_z w64 n) 0 ≡ is_zero n
unfolding is_zero
zero_bits (pos n) h = refl
zero_bits (negsuc n) h = ne_eqb (2 ^ 64 - suc n) 0 (λ e. omega (arith, h.sfits)) ∙ sym (eqb-suc-zero n)

pub returns : goal.returns
returns c = zero_bits c.args.n c.ranges.n
