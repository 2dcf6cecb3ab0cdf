-- A point that is not 0 is a multiple of its normal form, and a multiple of a normal form has that one for its own; the
-- first nonzero of 0, u, v is that of u, v, and of the numbers above 0 only 1 has no factor in common with 0. Assumes
-- nothing.
use mathlib.Core.Path.{◌≡◌, refl, sym, ap, ◌∙◌, subst}
use mathlib.Core.Logic.{◌⊎◌, inl, inr}
use Prim.Native.Nat.{ℕ, zero, suc, ◌≤◌}
use native.Mathlib.Nat.{zero-lt-suc}
use native.Mathlib.Omega.{arith}
use lib.IntN.{ℤ, pos, negsuc, nat_abs}
use lib.Signed.{◌<ℤ◌, <ℤ_irrefl}
use Rattle.whole.proofs.Order.{pos-<, ≤ℤ_of-<ℤ, pos_nat_abs_of-≤ℤ}
use Rattle.whole.proofs.Size.{nat_abs_zero}
use Rattle.number.specs.Gcd.{gcd_of, Coprime}
use Rattle.number.proofs.Gcd.{gcd_zero, gcd_symmetric}
use Rattle.point.specs.Normal.{common_factor, or_else, leading, normal, at_infinity, normal_direction}
use Rattle.point.specs.NormalForms.{NormalFormOf, NormalIsTheOne, NormalDirectionExactly}
use Rattle.point.specs.declared.Point.{Point}
use Rattle.point.specs.declared.Direction.{Direction}
use Rattle.point.proofs.Vector.{same_point, Zero}
use Rattle.point.proofs.Normal.{signed_factor, signed_factor_not_zero, factor_times_normal, normal_is_normal_form, normal_form_not_zero, normal_scaled, normal_of_normal_form, normal_at_infinity, normal_size_x, normal_size_y, normal_size_z}

-- ---- points

no_larger : {m n : ℤ} → nat_abs m ≤ nat_abs n → n ≡ pos 0 → m ≡ n
no_larger {m} h e = let none : ◌≡◌ {A = ℕ} (nat_abs m) 0 = omega (arith, ap nat_abs e) in nat_abs_zero m none ∙ sym e

normal_of_zero : {p : Point} → Zero p → normal p ≡ p
normal_of_zero {p} (a, b, c) =
    same_point (no_larger (normal_size_x p) a) (no_larger (normal_size_y p) b) (no_larger (normal_size_z p) c)

pub normal_is_the_one : NormalIsTheOne
unfolding NormalIsTheOne at_infinity normal_direction
normal_is_the_one = (
  λ p n f. (is_normal, λ e. subst (NormalFormOf p) (sym e) (has_normal f)),
  λ p. normal_of_zero,
  λ t. same_point refl refl (sym (normal_at_infinity (at_infinity t) refl)),
)
  where
    has_normal : {p : Point} → ¬ Zero p → NormalFormOf p (normal p)
    has_normal {p} f =
        record {
          normal_form = normal_is_normal_form f;
          factor = signed_factor p;
          factor_not_zero = signed_factor_not_zero f;
          multiple = sym (factor_times_normal p);
        }

    is_normal : {p n : Point} → NormalFormOf p n → n ≡ normal p
    is_normal m =
        sym
        (ap normal m.multiple
        ∙ normal_scaled m.factor m.factor_not_zero (normal_form_not_zero m.normal_form)
        ∙ normal_of_normal_form m.normal_form)

-- ---- directions

factor_of_two : (t : Direction) → common_factor (at_infinity t) ≡ gcd_of (nat_abs t.u) (nat_abs t.v)
unfolding common_factor at_infinity
factor_of_two t = gcd_zero (gcd_of (nat_abs t.u) (nat_abs t.v))

first_of_two : (t : Direction) → leading (at_infinity t) ≡ or_else t.u t.v
unfolding leading at_infinity or_else
first_of_two t = refl

upward : {v : ℤ} → Coprime (pos 0) v → pos 0 <ℤ v → v ≡ pos 1
upward {v} c h =
    sym (pos_nat_abs_of-≤ℤ (≤ℤ_of-<ℤ h))
    ∙ ap pos (sym (gcd_symmetric 0 (nat_abs v) ∙ gcd_zero (nat_abs v)) ∙ c.gcd_is_one)

positive_cases : (u v : ℤ) → Coprime u v → pos 0 <ℤ or_else u v → (pos 0 <ℤ u) ⊎ ((u ≡ pos 0) × (v ≡ pos 1))
unfolding or_else
positive_cases (pos zero) v c h = inr (refl, upward c h)
positive_cases (pos (suc u)) v c h = inl h
positive_cases (negsuc u) v c h = inl h

first_positive : (u v : ℤ) → pos 0 <ℤ u → pos 0 <ℤ or_else u v
unfolding or_else
first_positive (pos zero) v h = absurd (<ℤ_irrefl h)
first_positive (pos (suc u)) v h = h
first_positive (negsuc u) v h = h

cases_positive : {u v : ℤ} → (pos 0 <ℤ u) ⊎ ((u ≡ pos 0) × (v ≡ pos 1)) → pos 0 <ℤ or_else u v
unfolding or_else
cases_positive {u} {v} (inl h) = first_positive u v h
cases_positive {u} {v} (inr (e, f)) = rw (e, f) (pos-< (zero-lt-suc 0))

pub normal_direction_exactly : NormalDirectionExactly
unfolding NormalDirectionExactly
normal_direction_exactly t = (
  λ n.
      let c : Coprime t.u t.v = record { gcd_is_one = sym (factor_of_two t) ∙ n.no_common_factor } in
      (c, positive_cases t.u t.v c (subst (λ m. pos 0 <ℤ m) (first_of_two t) n.positive)),
  λ (c, h).
      record {
        no_common_factor = factor_of_two t ∙ c.gcd_is_one;
        positive = subst (λ m. pos 0 <ℤ m) (sym (first_of_two t)) (cases_positive h);
      },
)
