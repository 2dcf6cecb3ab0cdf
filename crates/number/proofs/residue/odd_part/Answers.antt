-- `number::residue::odd_part` meets its contract: the lowest digit 1 of the number is above its trailing zeros, so the shift
-- leaves an odd number. Assumes nothing.
use Rattle.std.proofs.Common.{arith, w64}
use Rattle.std.proofs.Math.Nat.{div-le_self}
use Rattle.std.proofs.lemmas.Nat.Bits.{bit_at-trailing_zeros}
use Rattle.number.proofs.residue.odd_part.Goals as goal

pub returns : goal.returns
returns c = (omega (arith, (bit_at-trailing_zeros w64 c.args.number c.requires (omega arith)).1), div-le_self _ _)
