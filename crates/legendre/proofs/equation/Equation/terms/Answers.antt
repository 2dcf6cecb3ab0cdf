-- `legendre::equation::Equation::terms` meets its contract: each product on the way is at most 2⁶⁰ in size, so that each fits and their
-- sum is the number itself. Assumes nothing.
use mathlib.Core.Path.{◌≡◌}
use Prim.Native.Nat.{ℕ, ◌^◌, ◌≤◌}
use native.Mathlib.Omega.{arith}
use lib.IntN.{ℤ, pos, nat_abs, ◌*ℤ◌}
use mir.Syntax.{w64}
use mir.Val.{SFits}
use Rattle.legendre.proofs.MachineProducts.{kept, small_fits, product_is, sum_fits, sum_is}
use Rattle.legendre.proofs.Reach.{p_fits, q_fits, terms_at_most}
use Rattle.legendre.proofs.equation.Equation.terms.Goals as goal

term_is : {a : ℤ} {n : ℕ} → SFits w64 a → n ≤ 2 ^ 60 → nat_abs (a *ℤ pos n) ≤ 2 ^ 60 → kept (kept a *ℤ kept (pos n)) ≡ a *ℤ pos n
term_is fits square term = product_is fits (small_fits (omega arith)) (omega arith)

pub overflow_add-result : goal.overflow_add-result
overflow_add-result c =
    let t = c.requires in
    let r = c.args.self.reach in
    sum_fits (term_is (p_fits r) t.x_square t.x_term) (term_is (q_fits r) t.w_square t.w_term) (terms_at_most t)

pub returns : goal.returns
returns c =
    let t = c.requires in
    let r = c.args.self.reach in
    sum_is (term_is (p_fits r) t.x_square t.x_term) (term_is (q_fits r) t.w_square t.w_term) (terms_at_most t)
