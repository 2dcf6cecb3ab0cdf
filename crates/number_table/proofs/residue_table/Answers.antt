-- `number_table::residue_table` calls for primes alone: each number of its list passes the test for primes. Assumes nothing.
use mathlib.Core.List.{List, [], ◌∷◌}
use mathlib.Core.Path.{refl}
use Prim.Native.Nat.{ℕ, ◌^◌}
use borrow.Author.Tests.{ltb-true}
use lib.Dec.{ltb}
use Rattle.std.proofs.lemmas.List.Sums.{AllPass-from_list_all}
use Rattle.number.specs.Divides.{divides}
use Rattle.number.specs.Least.{least, first_from}
use Rattle.number.specs.Prime.{is_prime, least_divisor}
use Rattle.number.proofs.Prime.{is_prime_iff}
use Rattle.number_table.proofs.residue_table.Goals as goal

abbrev primes : List ℕ
primes = 2 ∷ 3 ∷ 5 ∷ 7 ∷ 11 ∷ 13 ∷ 17 ∷ 10007 ∷ 10009 ∷ []

pub residue_row-requires : goal.residue_row-requires
unfolding is_prime least_divisor least first_from divides
residue_row-requires g c =
    let i = c.loop-prime.prime-index in
    let h = c.loop-prime-test.true in
    record {
      prime = is_prime_iff.0 (AllPass-from_list_all is_prime primes refl i 0 h);
      small = ltb-true _ _ (AllPass-from_list_all (λ (l : ℕ). ltb l (2 ^ 32)) primes refl i 0 h);
    }
