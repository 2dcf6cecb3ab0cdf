-- `number::residue::Residue::scan` gives the least root: the first number that squares to the residue is it, and where none up
-- to half the prime does, none does, since a number and its opposite have one square. Assumes nothing.
use mathlib.Core.Path.{◌≡◌, sym, ◌∙◌}
use Prim.Native.Nat.{◌*◌, ◌%◌, ◌<◌}
use native.Mathlib.Nat.{mod-lt}
use native.Mathlib.Omega.{arith}
use borrow.Author.Count.{below_more}
use Rattle.number.proofs.Fermat.{odd_prime}
use Rattle.number.proofs.LeastRoot.{first_root, no_root, next_square_below, next_square_above}
use Rattle.number.proofs.Prime.{is_prime_iff}
use Rattle.number.proofs.residue.Residue.scan.Goals.{then-square-prime, else-square-prime}
use Rattle.number.proofs.residue.Residue.scan.Goals as goal

pub returns-then-square-value : goal.returns-then-square-value
returns-then-square-value c =
    let inv = c.loop-root.invariant in
    sym (first_root c.loop-root.root c.args.self.below (omega arith) (sym inv.0 ∙ c.if-square-value.true) inv.1)

pub loop-root-preserved : goal.loop-root-preserved
loop-root-preserved c =
    let l = c.args.self.modulus.n in
    let r = c.loop-root.root in
    let s = c.loop-root.square in
    let squared : s ≡ r * r % l = c.loop-root.invariant.0 in
    let below : r * r % l < l = mod-lt (r * r) (omega arith) in (
      elim c.if-square-prime.branch [
        | then-square-prime w ↦ w.square-is ∙ next_square_above l r s squared w.if-square-prime.true (omega arith)
        | else-square-prime w ↦ w.square-is ∙ next_square_below l r s squared w.if-square-prime.false
      ],
      below_more _ _ c.loop-root.invariant.1 (λ e. c.if-square-value.false (squared ∙ e)),
    )

pub returns : goal.returns
returns c =
    let odd : c.args.self.modulus.n % 2 ≡ 1 = odd_prime (is_prime_iff.0 c.args.self.prime_tested) (omega arith) in
    sym (no_root (omega arith) c.args.self.below (λ r half. c.loop-root.invariant.1 r (omega arith)))
