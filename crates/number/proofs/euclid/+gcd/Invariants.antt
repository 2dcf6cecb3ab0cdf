-- The measure of `number::euclid::gcd`: the second number, since each call is given a remainder by it. Assumes
-- nothing.
use Rattle.number.proofs.euclid.+gcd.Given as goal

abbrev pub decreases-gcd : goal.decreases-gcd
decreases-gcd l = l.b
