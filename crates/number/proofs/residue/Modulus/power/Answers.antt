-- `number::residue::Modulus::power` meets its contract: a turn takes a factor out of an odd power and squares, which keeps what
-- result·squareˡᵉᶠᵗ leaves; at its end nothing is left of the exponent, and the result is what is left. Assumes
-- nothing.
use mathlib.Core.Path.{◌≡◌, sym, ◌∙◌, ap}
use Prim.Native.Nat.{ℕ, ◌*◌, ◌^◌, ◌/◌, ◌%◌, ◌<◌}
use native.Mathlib.Omega.{arith}
use Rattle.number.proofs.Modulo.{power_even, power_odd, power_done}
use Rattle.number.proofs.residue.Modulus.power.Goals.{then-left-eq1, else-left-eq1}
use Rattle.number.proofs.residue.Modulus.power.Goals as goal

not_odd : (k : ℕ) → (k % 2 ≡ 1 → ⊥) → k % 2 ≡ 0
not_odd k h = omega arith

pub loop-left-preserved : goal.loop-left-preserved
loop-left-preserved c =
    let n = c.args.self.n in
    let r = c.loop-left.result in
    let s = c.loop-left.square in
    let k = c.loop-left.left in
    let t = c.product-square.result in
    let squared : t ≡ s * s % n = c.product-square.ensures.value in
    let q = c.if-left-eq1.result in
    let multiplied : (q < n) × (q * t ^ (k / 2) % n ≡ r * s ^ k % n) =
    elim c.if-left-eq1.branch [
      | then-left-eq1 w ↦ (
        omega (arith, w.product-result.ensures.below),
        power_odd n r s t k squared q (w.result-is ∙ w.product-result.ensures.value) w.if-left-eq1.true,
      )
      | else-left-eq1 w ↦ (
        omega arith,
        ap (λ (x : ℕ). x * t ^ (k / 2) % n) w.result-is ∙ power_even n r s t k squared (not_odd k w.if-left-eq1.false),
      )
    ] in
    (multiplied.0, c.product-square.ensures.below, multiplied.1 ∙ c.loop-left.invariant.2)

pub returns : goal.returns
returns c =
    let inv = c.loop-left.invariant in
    let done = power_done c.args.self.n c.loop-left.result c.loop-left.square {k = c.loop-left.left} in
    record { value = sym (done (omega arith) inv.0) ∙ inv.2; below = inv.0 }
