-- `number::residue::Modulus::remainder` meets its contract: the library's remainder is the definition's, by the number's sign.
-- Assumes nothing.
use mathlib.Core.Path.{◌≡◌, refl, ap, ap₂, ◌∙◌}
use Prim.Native.Nat.{ℕ}
use native.Mathlib.Omega.{arith}
use lib.IntN.{ℤ, pos, negsuc, nat_abs}
use mir.Syntax.{w64}
use mir.Facts.{to_z-of_z, to_z_pos}
use Rattle.std.specs.Int.{int_rem_euclid}
use Rattle.number.specs.Remainder.{remainder_of}
use Rattle.number.proofs.residue.Modulus.remainder.Goals as goal

euclid_is : (n : ℕ) (m : ℤ) → nat_abs (int_rem_euclid m (pos n)) ≡ remainder_of n m
unfolding remainder_of
euclid_is n (pos a) = refl
euclid_is n (negsuc a) = omega arith

pub returns : goal.returns
returns c =
    let r = c.rem_euclid in
    ap nat_abs (to_z-of_z {w = w64} (record { sfits = r.type_inv }) ∙ r.ensures.value ∙ ap₂ int_rem_euclid (to_z-of_z c.ranges.number) (to_z_pos w64 (omega arith)))
    ∙ euclid_is c.args.self.n c.args.number
