-- `legendre::failing::failing` meets its contract: a divisor that divides what is left is the least prime left, so the
-- first at which the number is no square is the find; and at the loop's end what is left is 1 or a prime. Assumes nothing.
use mathlib.Core.Path.{◌≡◌, refl, sym, ap, ◌∙◌}
use mathlib.Core.Bool.{Bool}
use Prim.Native.Nat.{ℕ, suc}
use native.Mathlib.Omega.{arith}
use borrow.Author.Tests.{not-true, not-false}
use lib.IntN.{ℤ}
use mir.Syntax.{w64}
use mir.Val.{SFits, to_z, of_z}
use mir.Facts.{to_z-of_z}
use Rattle.std.specs.Bool.{then_some}
use Rattle.legendre.specs.Search.{least_below, fails}
use Rattle.legendre.proofs.FailingPrimes.{trial_taken, trial_next, divisor_small, divisor_prime, divisor_fails}
use Rattle.legendre.proofs.FailingPrimes.{none_left, rest_at_most, rest_prime, rest_decides}
use Rattle.legendre.proofs.failing.failing.Goals as goal

-- the loop reads the number from its bits
at_number : (size : ℕ) {number : ℤ} → SFits w64 number
    → least_below (fails size (to_z w64 (of_z w64 number))) (suc size) ≡ least_below (fails size number) (suc size)
at_number size f = ap (λ (n : ℤ). least_below (fails size n) (suc size)) (to_z-of_z f)

pub no_root-requires : goal.no_root-requires
no_root-requires c =
    let t = c.loop-divisor.invariant in
    record {
      prime = divisor_prime t c.requires.positive c.if-rest-divisor-eq0.true;
      small = omega (arith, t.divisor_bound);
    }

pub returns-then-no_root : goal.returns-then-no_root
returns-then-no_root c =
    divisor_fails c.loop-divisor.invariant c.requires.positive c.if-rest-divisor-eq0.true
    (not-true _ (sym c.no_root.ensures ∙ c.if-no_root.true))
    ∙ at_number c.args.size c.ranges.number

pub loop-divisor-preserved-then-rest-divisor-eq0 : goal.loop-divisor-preserved-then-rest-divisor-eq0
loop-divisor-preserved-then-rest-divisor-eq0 c =
    trial_taken c.loop-divisor.invariant c.requires.positive c.if-rest-divisor-eq0.true
    (not-false _ (sym c.no_root.ensures ∙ c.if-no_root.false))

pub loop-divisor-smaller : goal.loop-divisor-smaller
loop-divisor-smaller c =
    omega (arith, divisor_small c.loop-divisor.invariant c.requires.positive c.requires.small (omega arith))

pub loop-divisor-preserved : goal.loop-divisor-preserved
loop-divisor-preserved c =
    let t = c.loop-divisor.invariant in
    trial_next t c.requires.positive (divisor_small t c.requires.positive c.requires.small (omega arith)) c.if-rest-divisor-eq0.false

pub returns-then-rest-eq1 : goal.returns-then-rest-eq1
returns-then-rest-eq1 c =
    none_left c.loop-divisor.invariant c.requires.positive c.if-rest-eq1.true ∙ at_number c.args.size c.ranges.number

pub no_root-requires-2 : goal.no_root-requires-2
no_root-requires-2 c =
    let t = c.loop-divisor.invariant in
    record {
      prime = rest_prime t c.requires.positive (omega arith) c.if-rest-eq1.false;
      small = omega (arith, rest_at_most t c.requires.positive, c.requires.small);
    }

pub returns : goal.returns
returns c =
    c.then_some.ensures ∙ ap (λ (b : Bool). then_some b c.loop-divisor.rest) c.no_root-2.ensures
    ∙ rest_decides c.loop-divisor.invariant c.requires.positive (omega arith) c.if-rest-eq1.false _ refl
    ∙ at_number c.args.size c.ranges.number
