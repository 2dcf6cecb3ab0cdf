-- `book::bytes::number_at` meets its contract: a number of seven bytes leaves room for one more. Assumes nothing.
use mathlib.Core.Path.{◌≡◌, refl, ap₂, ◌∙◌}
use Prim.Native.Nat.{ℕ}
use native.Mathlib.Nat.{sub_self}
use native.Mathlib.Omega.{arith}
use Rattle.book.specs.Bytes.{number_at}
use Rattle.book.proofs.LittleEndian.{number_more, number_below, seven_below}
use Rattle.book.proofs.bytes.number_at.Goals as goal

pub loop-i-init : goal.loop-i-init
unfolding number_at
loop-i-init g c = rw sub_self refl

pub overflow_mul-number : goal.overflow_mul-number
overflow_mul-number g c = omega (arith, seven_below c.args.book.now c.type_inv.book _ c.loop-i.invariant (omega arith))

pub overflow_add-number : goal.overflow_add-number
overflow_add-number g c = omega (arith, seven_below c.args.book.now c.type_inv.book _ c.loop-i.invariant (omega arith))

pub loop-i-preserved : goal.loop-i-preserved
loop-i-preserved g c = number_more c.args.book.now _ c.loop-i.invariant c.from.ensures (omega arith) (omega arith)

pub returns : goal.returns
returns g c =
    let book = c.args.book.now in
    let all : c.loop-i.number ≡ number_at g.row.N book c.args.at =
    c.loop-i.invariant ∙ ap₂ (λ (n at : ℕ). number_at n book at) (omega arith) (omega arith) in
    (all, rw all (number_below book c.type_inv.book g.row.N c.args.at))
