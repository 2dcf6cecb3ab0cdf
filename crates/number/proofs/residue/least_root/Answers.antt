-- `number::residue::least_root` meets its contract: the least root depends only on the number's remainder; 0 and 1 are their own
-- roots, and any other residue goes to the search or to the powers, which have the contract for it. Assumes nothing.
use mathlib.Core.Path.{◌≡◌, sym, ap, ◌∙◌}
use Prim.Native.Nat.{ℕ, ◌<◌}
use native.Mathlib.Omega.{arith}
use lib.IntN.{pos}
use mir.Facts.{to_z-of_z}
use Rattle.number.specs.Remainder.{remainder_of}
use Rattle.number.specs.Root.{least_root}
use Rattle.number.proofs.Congruence.{remainder_below}
use Rattle.number.proofs.LeastRoot.{least_root_of_remainder, own_root}
use Rattle.number.proofs.Prime.{is_prime_iff}
use Rattle.number.proofs.residue.least_root.Goals.{After-remainder-value, Else-value-lt2}
use Rattle.number.proofs.residue.least_root.Goals as goal

-- the residue stands for the number
for_residue : (c : After-remainder-value) →
    least_root c.args.prime (pos c.remainder-value.result) ≡ least_root c.args.prime c.args.number
for_residue c =
    let l = c.args.prime in
    let residue : c.remainder-value.result ≡ remainder_of l c.args.number =
    c.remainder-value.ensures ∙ ap (remainder_of l) (to_z-of_z c.ranges.number) in
    ap (λ (a : ℕ). least_root l (pos a)) residue ∙ least_root_of_remainder (omega arith) c.args.number

pub returns-then-value-lt2 : goal.returns-then-value-lt2
returns-then-value-lt2 c = sym (own_root c.remainder-value.result c.requires.prime (omega arith)) ∙ for_residue c.before

is_below : (c : Else-value-lt2) → c.remainder-value.result < c.args.prime
is_below c = rw c.remainder-value.ensures (remainder_below (omega arith) _)

pub invariant_of-residue : goal.invariant_of-residue
invariant_of-residue c =
    record {
      prime_tested = is_prime_iff.1 c.requires.prime;
      at_least_two = omega arith;
      below = is_below c.before;
    }

pub invariant_of-residue-2 : goal.invariant_of-residue-2
invariant_of-residue-2 c =
    record {
      prime_tested = is_prime_iff.1 c.requires.prime;
      at_least_two = omega arith;
      below = is_below c.before;
    }

pub returns-then-prime-lt512 : goal.returns-then-prime-lt512
returns-then-prime-lt512 c = c.scan.ensures ∙ for_residue c.before.before.before.before

pub returns : goal.returns
returns c = c.by_powers.ensures ∙ for_residue c.before.before.before.before
