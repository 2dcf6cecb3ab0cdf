-- `legendre::equation::Equation::height` meets its contract: each of its tests decides what `Heights` says of the sizes and signs.
-- Assumes nothing.
use mathlib.Core.Path.{◌≡◌, sym, ap, ap₂, ◌∙◌}
use mathlib.Core.Bool.{Bool, true, false}
use Prim.Native.Nat.{ℕ, ◌^◌, ◌≤◌}
use native.Mathlib.Omega.{arith}
use lib.IntN.{ℤ, nat_abs, ◌*ℤ◌}
use mir.Facts.{to_z-of_z}
use Rattle.std.proofs.Common.{rules}
use Rattle.std.specs.Prelude.{Option, Some, None, IfSome}
use Rattle.std.specs.Option.{is_some}
use Rattle.number.proofs.Squarefree.{squarefree_not_zero}
use Rattle.legendre.specs.Equation.{BoxSolution}
use Rattle.legendre.specs.Reach.{Reach, Place}
use Rattle.legendre.specs.Search.{same_sign, HeightAt}
use Rattle.legendre.proofs.Heights.{terms, Division, divisor_positive, none_same_sign, none_undivided, none_too_large, none_all_zero, none_no_square, found}
use Rattle.legendre.proofs.MachineProducts.{kept, small_fits, product_fits, product_is}
use Rattle.legendre.proofs.Reach.{p_fits, q_fits, kept_g, pq_small, terms_small, terms_at_most, root_small}
use Rattle.legendre.proofs.equation.Equation.height.Goals as goal

-- ---- what the calls gave, in the numbers themselves

module _ {p g q : ℤ} (reach : Reach p g q) {w x : ℕ} (place : Place p g q w x) where
  x_small : x ≤ 2 ^ 30
  x_small = root_small x (terms_small reach place).x_square

  w_small : w ≤ 2 ^ 30
  w_small = root_small w (terms_small reach place).w_square

  limit_is : {limit : ℕ} → limit ≡ nat_abs (kept (kept p *ℤ kept q)) → limit ≡ nat_abs (p *ℤ q)
  limit_is e = e ∙ ap nat_abs (product_is (p_fits reach) (q_fits reach) (omega (arith, pq_small reach)))

  module _ {value : ℤ} (value_is : value ≡ terms p q w x) where
    kept_value : kept value ≡ terms p q w x
    kept_value = ap kept value_is ∙ to_z-of_z (small_fits (terms_at_most (terms_small reach place)))

    sign_is : {sign : Bool} → sign ≡ same_sign (kept value) (kept g) → sign ≡ same_sign (terms p q w x) g
    sign_is e = e ∙ ap₂ same_sign kept_value (kept_g reach)

    division : {size divisor : ℕ} → size ≡ nat_abs (kept value) → divisor ≡ nat_abs (kept g) → Division p g q w x size divisor
    division size_is divisor_is = record {
      not_zero = squarefree_not_zero reach.levelled.squarefree_g;
      size_is = size_is ∙ ap nat_abs kept_value;
      divisor_is = divisor_is ∙ ap nat_abs (kept_g reach);
    }

-- what is found where a test holds
by_test : (P : ℕ → Type 0) {p g q : ℤ} {w x : ℕ} {test : Bool} (found : Option ℕ) → is_some found ≡ test → IfSome found P
    → ((y : ℕ) → P y → test ≡ true → BoxSolution p g q x y w) → (test ≡ false → (y : ℕ) → ¬ BoxSolution p g q x y w)
    → HeightAt p g q w x found
by_test P (Some y) same here at_some at_none = at_some y here (sym same)
by_test P None same here at_some at_none = at_none (sym same)

-- ---- the goals

pub terms-value-requires : goal.terms-value-requires
terms-value-requires c = terms_small c.args.self.reach c.requires

pub returns-then-same_sign : goal.returns-then-same_sign
returns-then-same_sign c =
    let e = c.args.self in
    none_same_sign e.p e.g e.q c.args.w c.args.x
    (sym (sign_is e.reach c.requires c.terms-value.ensures c.same_sign.ensures) ∙ c.if-same_sign.true)

pub nonzero_rem-size : goal.nonzero_rem-size
nonzero_rem-size c =
    let d = division c.args.self.reach c.requires c.terms-value.ensures c.magnitude-size.ensures c.magnitude-divisor.ensures in
    divisor_positive d

pub returns-then-size-divisor-ne0 : goal.returns-then-size-divisor-ne0
returns-then-size-divisor-ne0 c =
    let d = division c.args.self.reach c.requires c.terms-value.ensures c.magnitude-size.ensures c.magnitude-divisor.ensures in
    none_undivided d c.if-size-divisor-ne0.true

pub nonzero_div-square : goal.nonzero_div-square
nonzero_div-square c =
    let d = division c.args.self.reach c.requires c.terms-value.ensures c.magnitude-size.ensures c.magnitude-divisor.ensures in
    divisor_positive d

pub overflow_mul-self : goal.overflow_mul-self
overflow_mul-self c = let r = c.args.self.reach in product_fits (p_fits r) (q_fits r) (omega (arith, pq_small r))

pub returns-then-square-magnitude : goal.returns-then-square-magnitude
returns-then-square-magnitude c =
    let r = c.args.self.reach in
    let d = division r c.requires c.terms-value.ensures c.magnitude-size.ensures c.magnitude-divisor.ensures in
    none_too_large d (limit_is r c.requires c.magnitude.ensures) c.if-square-magnitude.true

pub overflow_add-x : goal.overflow_add-x
overflow_add-x c =
    let r = c.args.self.reach in
    omega (arith, x_small r c.requires, limit_is r c.requires c.magnitude.ensures, pq_small r)

pub overflow_add-x-2 : goal.overflow_add-x-2
overflow_add-x-2 c =
    let r = c.args.self.reach in
    omega (arith, x_small r c.requires, w_small r c.requires, limit_is r c.requires c.magnitude.ensures, pq_small r)

pub returns-then-x-square-eq0 : goal.returns-then-x-square-eq0
returns-then-x-square-eq0 c =
    let d = division c.args.self.reach c.requires c.terms-value.ensures c.magnitude-size.ensures c.magnitude-divisor.ensures in
    none_all_zero d c.if-x-square-eq0.true

pub returns : goal.returns
returns c =
    let r = c.args.self.reach in
    let place = c.requires in
    let d = division r place c.terms-value.ensures c.magnitude-size.ensures c.magnitude-divisor.ensures in
    let other_sign = sym (sign_is r place c.terms-value.ensures c.same_sign.ensures) ∙ c.if-same_sign.false in
    let limit = limit_is r place c.magnitude.ensures in
    by_test _ c.then.result c.then.ensures.variant c.then.ensures.some
    (λ y here square. found d place.x_within place.row.w_within other_sign c.if-size-divisor-ne0.false
    limit c.if-square-magnitude.false c.if-x-square-eq0.false (sym c.is_square.ensures ∙ square) (search rules))
    (λ no_square. none_no_square d (sym c.is_square.ensures ∙ no_square))
