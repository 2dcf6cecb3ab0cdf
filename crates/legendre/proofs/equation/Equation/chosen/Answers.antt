-- `legendre::equation::Equation::chosen` meets its contract: the box holds a solution, so that its rows do not end without one, and the
-- first solution of the first row that has one is the chosen one. Assumes nothing.
use mathlib.Core.Path.{ap₂, ◌∙◌}
use mathlib.Core.Logic.{◌≢◌}
use Prim.Native.Nat.{ℕ}
use native.Mathlib.Omega.{arith}
use borrow.Author.Count.{below_more}
use lib.IntN.{pos}
use Rattle.number.proofs.Squarefree.{squarefree_not_zero}
use Rattle.legendre.specs.Equation.{BoxSolution}
use Rattle.legendre.specs.Outcome.{side}
use Rattle.legendre.proofs.Choice.{within_side_iff, chosen_by_walk, chosen_is_chosen, chosen_unique}
use Rattle.legendre.proofs.Reach.{kept_p, kept_g, kept_q, gq_small, pg_small}
use Rattle.legendre.proofs.equation.Equation.chosen.Goals.{After-side-w-end}
use Rattle.legendre.proofs.equation.Equation.chosen.Goals as goal

pub side-width-requires : goal.side-width-requires
side-width-requires c = let r = c.args.self.reach in rw (kept_g r, kept_q r) (gq_small r)

pub side-w-end-requires : goal.side-w-end-requires
side-w-end-requires c = let r = c.args.self.reach in rw (kept_p r, kept_g r) (pg_small r)

pub row-requires-clause-row : goal.row-requires-clause-row
row-requires-clause-row c =
    let e = c.args.self in
    let end = c.side-w-end.ensures ∙ ap₂ side (kept_p e.reach) (kept_g e.reach) in
    record { w_within = (within_side_iff e.p e.g).0 (omega (arith, end)) }

pub loop-w-preserved : goal.loop-w-preserved
loop-w-preserved c =
    let e = c.args.self in
    record {
      none = λ a b k h. below_more (λ (k : ℕ). BoxSolution e.p e.g e.q a b k → ⊥) _ (c.loop-w.invariant.none a b) (c.in_default.ensures a b) k h;
    }

pub returns-in-Some : goal.returns-in-Some
returns-in-Some c =
    let e = c.args.self in
    let apart : e.g ≢ pos 0 = squarefree_not_zero e.reach.levelled.squarefree_g in
    let first = c.in-Some.ensures in
    chosen_unique
    (chosen_by_walk c.in-Some.x c.in-Some.y c.loop-w.w apart first.0 c.loop-w.invariant.none first.1)
    (chosen_is_chosen e.p e.g e.q apart c.requires)

pub unreachable-requires : goal.unreachable-requires
unreachable-requires c =
    let e = c.args.self in
    let s = c.requires in
    let end = c.side-w-end.ensures ∙ ap₂ side (kept_p e.reach) (kept_g e.reach) in
    c.loop-w.invariant.none s.x s.y s.w (omega (arith, end, (within_side_iff e.p e.g).1 s.solution.w_within)) s.solution
