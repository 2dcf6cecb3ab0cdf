-- Normal form: a point that is not 0 is its signed common factor times its normal form, which has no common factor and a positive
-- first number; two points in normal form that are proportional are equal, since their factors have equal sizes and equal signs.
-- Assumes nothing.
use mathlib.Core.Path.{◌≡◌, refl, sym, ap, ap₂, ◌∙◌, subst}
use mathlib.Core.Logic.{◌≢◌, ◌↔◌}
use Prim.Native.Nat.{ℕ, zero, suc, ◌*◌, ◌≤◌, ◌∣◌}
use native.Mathlib.Nat.{suc-ne-zero, zero-lt-suc, mul-zero, mul-one, zero-div, eq_of_mul-eq-mul_left}
use lib.IntN.{ℤ, pos, negsuc, neg_ℤ, nat_abs, ◌*ℤ◌, *ℤ_comm, neg_ℤ-neg_ℤ, pos-ne-negsuc}
use lib.Signed.{quot_z, ◌<ℤ◌, <ℤ_irrefl}
use Rattle.whole.proofs.Laws.{negℤ-*ℤ}
use Rattle.whole.proofs.Order.{pos-<, ≢-of-<ℤ, ≤ℤ_of-<ℤ, pos_nat_abs_of-≤ℤ}
use Rattle.whole.proofs.Size.{nat_abs_neg, nat_abs-*, quotient_size, nat_abs_positive}
use Rattle.whole.proofs.Products.{*ℤ_cancel}
use Rattle.whole.proofs.Quotient.{quot_exact}
use Rattle.whole.proofs.Cancel.{product_not_zero}
use Rattle.point.specs.Normal.{common_factor, leading, signed, over, normal, NormalForm}
use Rattle.point.specs.declared.Point.{Point}
use Rattle.point.proofs.Vector.{scaled, same_point, one_not_zero, scaled_one, scaled_twice, cancel_scaled, Zero, scaled_not_zero, Proportional, Aligned, aligned_multiple, aligned_proportional, proportional_aligned}
use Rattle.point.proofs.Factor.{factor_divides_x, factor_divides_y, factor_divides_z, factor_scaled, zero_of_factor, leading_scaled, leading_of_zero, zero_of_leading}

-- ---- a point is its signed factor times its normal form

abbrev pub signed_factor : Point → ℤ
signed_factor p = signed (leading p) (common_factor p)

size_of_signed : (m : ℤ) (n : ℕ) → nat_abs (signed m n) ≡ n
unfolding signed
size_of_signed (pos m) n = refl
size_of_signed (negsuc m) n = nat_abs_neg (pos n)

pub size_of_signed_factor : (p : Point) → nat_abs (signed_factor p) ≡ common_factor p
size_of_signed_factor p = size_of_signed (leading p) (common_factor p)

pub signed_factor_not_zero : {p : Point} → ¬ Zero p → signed_factor p ≢ pos 0
signed_factor_not_zero {p} f e = f (zero_of_factor p (sym (size_of_signed_factor p) ∙ ap nat_abs e))

pub factor_times_normal : (p : Point) → scaled (signed_factor p) (normal p) ≡ p
unfolding normal over
factor_times_normal p =
    same_point (exact (factor_divides_x p)) (exact (factor_divides_y p)) (exact (factor_divides_z p))
  where
    exact : {m : ℤ} → common_factor p ∣ nat_abs m → signed_factor p *ℤ quot_z m (signed_factor p) ≡ m
    exact {m} h = quot_exact m (signed_factor p) (subst (λ (n : ℕ). n ∣ nat_abs m) (sym (size_of_signed_factor p)) h)

-- ---- the normal form is one

positive_cofactor : (g m : ℕ) (l : ℤ) → pos g *ℤ l ≡ pos (suc m) → pos 0 <ℤ l
positive_cofactor g m (pos zero) e = absurd (suc-ne-zero m (sym (ap nat_abs e) ∙ mul-zero g))
positive_cofactor g m (pos (suc l)) e = pos-< (zero-lt-suc l)
positive_cofactor g m (negsuc l) e = absurd (not_negative (g * suc l) e)
  where
    not_negative : (n : ℕ) → neg_ℤ (pos n) ≢ pos (suc m)
    not_negative zero e = suc-ne-zero m (sym (ap nat_abs e))
    not_negative (suc n) e = pos-ne-negsuc (suc m) n (sym e)

-- n with the sign of m, times l, is m: so l is positive
signed_cofactor : (m : ℤ) (n : ℕ) (l : ℤ) → m ≢ pos 0 → signed m n *ℤ l ≡ m → pos 0 <ℤ l
unfolding signed
signed_cofactor (pos zero) n l f e = absurd (f refl)
signed_cofactor (pos (suc m)) n l f e = positive_cofactor n m l e
signed_cofactor (negsuc m) n l f e =
    positive_cofactor n m l (sym (neg_ℤ-neg_ℤ (pos n *ℤ l)) ∙ ap neg_ℤ (sym (negℤ-*ℤ (pos n) l) ∙ e))

pub normal_is_normal_form : {p : Point} → ¬ Zero p → NormalForm (normal p)
normal_is_normal_form {p} f =
    record {
      no_common_factor =
          eq_of_mul-eq-mul_left (nat_abs s) (nat_abs_positive s≢0) (common_factor (normal p)) 1
          (sym (factor_scaled s (normal p) s≢0) ∙ ap common_factor (factor_times_normal p) ∙ sym (size_of_signed_factor p)
          ∙ sym (mul-one (nat_abs s)));
      positive =
          signed_cofactor (leading p) (common_factor p) (leading (normal p)) (λ e. f (zero_of_leading p e))
          (sym (leading_scaled s (normal p) s≢0) ∙ ap leading (factor_times_normal p));
    }
  where
    s : ℤ
    s = signed_factor p

    s≢0 : s ≢ pos 0
    s≢0 = signed_factor_not_zero f

pub normal_form_not_zero : {p : Point} → NormalForm p → ¬ Zero p
normal_form_not_zero n e = <ℤ_irrefl (subst (λ m. pos 0 <ℤ m) (leading_of_zero e) n.positive)

pub normal_form_unique : {p q : Point} → NormalForm p → NormalForm q → Aligned p q → p ≡ q
normal_form_unique {p} {q} m n r = cancel_scaled a f (r.same ∙ ap (λ c. scaled c q) (sym a≡b))
  where
    a : ℤ
    a = r.left

    b : ℤ
    b = r.right

    f : a ≢ pos 0
    f = r.left_not_zero

    factor_size : {p : Point} (k : ℤ) → k ≢ pos 0 → NormalForm p → common_factor (scaled k p) ≡ nat_abs k
    factor_size {p} k g n = factor_scaled k p g ∙ ap (λ (c : ℕ). nat_abs k * c) n.no_common_factor ∙ mul-one (nat_abs k)

    sizes : nat_abs a ≡ nat_abs b
    sizes = sym (factor_size a f m) ∙ ap common_factor r.same ∙ factor_size b r.right_not_zero n

    leadings : a *ℤ leading p ≡ b *ℤ leading q
    leadings = sym (leading_scaled a p f) ∙ ap leading r.same ∙ leading_scaled b q r.right_not_zero

    leading_sizes : nat_abs (leading p) ≡ nat_abs (leading q)
    leading_sizes =
        eq_of_mul-eq-mul_left (nat_abs a) (nat_abs_positive f) (nat_abs (leading p)) (nat_abs (leading q))
        (sym (nat_abs-* a (leading p)) ∙ ap nat_abs leadings ∙ nat_abs-* b (leading q)
        ∙ ap (λ (c : ℕ). c * nat_abs (leading q)) (sym sizes))

    same_leading : leading p ≡ leading q
    same_leading =
        sym (pos_nat_abs_of-≤ℤ (≤ℤ_of-<ℤ m.positive)) ∙ ap pos leading_sizes ∙ pos_nat_abs_of-≤ℤ (≤ℤ_of-<ℤ n.positive)

    a≡b : a ≡ b
    a≡b =
        *ℤ_cancel (leading q) (λ e. ≢-of-<ℤ n.positive (sym e))
        (*ℤ_comm (leading q) a ∙ ap (λ c. a *ℤ c) (sym same_leading) ∙ leadings ∙ *ℤ_comm b (leading q))

pub normal_of_aligned : {p q : Point} → ¬ Zero p → ¬ Zero q → Aligned p q → normal p ≡ normal q
normal_of_aligned {p} {q} f g r =
    normal_form_unique (normal_is_normal_form f) (normal_is_normal_form g)
    record {
      left = r.left *ℤ signed_factor p;
      right = r.right *ℤ signed_factor q;
      left_not_zero = product_not_zero r.left_not_zero (signed_factor_not_zero f);
      right_not_zero = product_not_zero r.right_not_zero (signed_factor_not_zero g);
      same = spread r.left p ∙ r.same ∙ sym (spread r.right q);
    }
  where
    spread : (k : ℤ) (p : Point) → scaled (k *ℤ signed_factor p) (normal p) ≡ scaled k p
    spread k p = sym (scaled_twice k (signed_factor p) (normal p)) ∙ ap (scaled k) (factor_times_normal p)

pub normal_scaled : (k : ℤ) {p : Point} → k ≢ pos 0 → ¬ Zero p → normal (scaled k p) ≡ normal p
normal_scaled k {p} f g = normal_of_aligned (scaled_not_zero f g) g (aligned_multiple f)

pub normal_of_normal_form : {p : Point} → NormalForm p → normal p ≡ p
normal_of_normal_form {p} n =
    normal_form_unique (normal_is_normal_form f) n
    record {
      left = signed_factor p;
      right = pos 1;
      left_not_zero = signed_factor_not_zero f;
      right_not_zero = one_not_zero;
      same = factor_times_normal p ∙ sym (scaled_one p);
    }
  where
    f : ¬ Zero p
    f = normal_form_not_zero n

pub aligned_of_normal : {p q : Point} → ¬ Zero p → ¬ Zero q → normal p ≡ normal q → Aligned p q
aligned_of_normal {p} {q} f g e =
    record {
      left = signed_factor q;
      right = signed_factor p;
      left_not_zero = signed_factor_not_zero g;
      right_not_zero = signed_factor_not_zero f;
      same = ap (scaled s') (sym (factor_times_normal p)) ∙ scaled_twice s' s (normal p) ∙ ap₂ scaled (*ℤ_comm s' s) e
          ∙ sym (scaled_twice s s' (normal q)) ∙ ap (scaled s) (factor_times_normal q);
    }
  where
    s : ℤ
    s = signed_factor p

    s' : ℤ
    s' = signed_factor q

-- equal normal forms are proportional vectors
pub normal_equal_iff : {p q : Point} → ¬ Zero p → ¬ Zero q → (normal p ≡ normal q) ↔ Proportional p q
normal_equal_iff f g =
    (λ e. aligned_proportional (aligned_of_normal f g e), λ r. normal_of_aligned f g (proportional_aligned f g r))

pub normal_forms_equal : {p q : Point} → NormalForm p → NormalForm q → Proportional p q → p ≡ q
normal_forms_equal m n r =
    normal_form_unique m n (proportional_aligned (normal_form_not_zero m) (normal_form_not_zero n) r)

-- ---- 0, and the sizes

zero_quotient : (k : ℤ) → quot_z (pos 0) k ≡ pos 0
zero_quotient (pos k) = ap pos (zero-div k)
zero_quotient (negsuc k) = ap (λ (n : ℕ). neg_ℤ (pos n)) (zero-div (suc k))

quotient_of_zero : {m : ℤ} (k : ℤ) → m ≡ pos 0 → quot_z m k ≡ pos 0
quotient_of_zero k e = ap (λ m. quot_z m k) e ∙ zero_quotient k

-- a point at infinity stays there
pub normal_at_infinity : (p : Point) → p.z ≡ pos 0 → (normal p).z ≡ pos 0
unfolding normal over
normal_at_infinity p e = quotient_of_zero (signed_factor p) e

pub normal_size_x : (p : Point) → nat_abs (normal p).x ≤ nat_abs p.x
unfolding normal over
normal_size_x p = quotient_size p.x (signed_factor p)

pub normal_size_y : (p : Point) → nat_abs (normal p).y ≤ nat_abs p.y
unfolding normal over
normal_size_y p = quotient_size p.y (signed_factor p)

pub normal_size_z : (p : Point) → nat_abs (normal p).z ≤ nat_abs p.z
unfolding normal over
normal_size_z p = quotient_size p.z (signed_factor p)
