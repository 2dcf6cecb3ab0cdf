-- Counting triples: a triple of a box is one number by its digits, so more triples than places put two of them, not the same, in one
-- place. A box whose sides X, Y, Z have X² ≥ bc, Y² > ca, Z² ≥ ab holds more than abc triples. Assumes nothing.
use mathlib.Core.Path.{◌≡◌, sym, ap, ◌∙◌}
use Prim.Native.Nat.{ℕ, ◌+◌, ◌*◌, ◌/◌, ◌%◌, ◌≤◌, ◌<◌}
use native.Mathlib.Nat.{mod-lt, div-lt_iff_lt-mul, div-add-mod', lt_of_not-le, mul-le-mul, one-le-mul}
use native.Mathlib.Omega.{arith}
use mathlib.Core.List.{[], ◌∷◌}
use lib.IntN.{ℤ, pos, nat_abs, ◌+ℤ◌, ◌*ℤ◌}
use Rattle.whole.proofs.Ring.{by_ring, reify}
use lib.Arith.{digits_lt, digits_div, digits_mod}
use Rattle.number.proofs.Pigeonhole.{Meet, pigeonhole}

-- ---- three digits as one number

unfoldable pub three_digits : (b c i j k : ℕ) → ℕ
three_digits b c i j k = (i * b + j) * c + k

pub three_digits_below : {a b c i j k : ℕ} → i < a → j < b → k < c → three_digits b c i j k < a * b * c
unfolding three_digits
three_digits_below h-i h-j h-k = digits_lt (digits_lt h-i h-j) h-k

pub record SameDigits (i j k i' j' k' : ℕ) : Type 0 where
  pub first : i ≡ i'
  pub second : j ≡ j'
  pub third : k ≡ k'

pub same_digits : {b c i j k i' j' k' : ℕ} → j < b → j' < b → k < c → k' < c → three_digits b c i j k ≡ three_digits b c i' j' k' → SameDigits i j k i' j' k'
unfolding three_digits
same_digits {b} {c} {i} {j} {k} {i'} {j'} {k'} h-j h-j' h-k h-k' same = record {
  first = sym (digits_div i h-j) ∙ ap (λ (n : ℕ). n / b) upper ∙ digits_div i' h-j';
  second = sym (digits_mod i h-j) ∙ ap (λ (n : ℕ). n % b) upper ∙ digits_mod i' h-j';
  third = sym (digits_mod (i * b + j) h-k) ∙ ap (λ (n : ℕ). n % c) same ∙ digits_mod (i' * b + j') h-k';
}
  where
    upper : i * b + j ≡ i' * b + j'
    upper = sym (digits_div (i * b + j) h-k) ∙ ap (λ (n : ℕ). n / c) same ∙ digits_div (i' * b + j') h-k'

-- ---- two triples of the box x < X, y < Y, z < Z in one place

pub record InBox (X Y Z x y z : ℕ) : Type 0 where
  pub x_below : x < X
  pub y_below : y < Y
  pub z_below : z < Z

pub record TwoTriples (X Y Z : ℕ) (f : ℕ → ℕ → ℕ → ℕ) : Type 0 where
  pub x : ℕ
  pub y : ℕ
  pub z : ℕ
  pub x' : ℕ
  pub y' : ℕ
  pub z' : ℕ
  pub in_box : InBox X Y Z x y z
  pub in_box' : InBox X Y Z x' y' z'
  pub not_same : ¬ SameDigits x y z x' y' z'
  pub same_place : f x y z ≡ f x' y' z'

module _ (X Y Z : ℕ) (f : ℕ → ℕ → ℕ → ℕ) (Y-positive : 0 < Y) (Z-positive : 0 < Z) where
  digits_in_box : (n : ℕ) → n < X * Y * Z → InBox X Y Z (n / Z / Y) (n / Z % Y) (n % Z)
  digits_in_box n h = record {
    x_below = (div-lt_iff_lt-mul Y-positive).1 ((div-lt_iff_lt-mul Z-positive).1 h);
    y_below = mod-lt (n / Z) Y-positive;
    z_below = mod-lt n Z-positive;
  }

  number_of : (n : ℕ) → three_digits Y Z (n / Z / Y) (n / Z % Y) (n % Z) ≡ n
  unfolding three_digits
  number_of n = ap (λ (m : ℕ). m * Z + n % Z) (div-add-mod' (n / Z) Y) ∙ div-add-mod' n Z

  place : ℕ → ℕ
  place n = f (n / Z / Y) (n / Z % Y) (n % Z)

  two_of : Meet place (X * Y * Z) → TwoTriples X Y Z f
  unfolding place
  two_of m = record {
    x = _;
    y = _;
    z = _;
    x' = _;
    y' = _;
    z' = _;
    in_box = digits_in_box m.first (omega arith);
    in_box' = digits_in_box m.second m.within;
    not_same = λ s. apart (sym (number_of m.first) ∙ together s ∙ number_of m.second);
    same_place = m.same;
  }
    where
      apart : m.first ≡ m.second → ⊥
      apart e = omega arith

      together : {i j k i' j' k' : ℕ} → SameDigits i j k i' j' k' → three_digits Y Z i j k ≡ three_digits Y Z i' j' k'
      together s = cc

  pub two_triples : (m : ℕ) → ((x y z : ℕ) → f x y z < m) → m < X * Y * Z → TwoTriples X Y Z f
  unfolding place
  two_triples m into more = two_of (pigeonhole place (X * Y * Z) m (λ n _. into (n / Z / Y) (n / Z % Y) (n % Z)) more)

-- ---- more than abc triples

square_of_product : (x y z : ℤ) → x *ℤ y *ℤ z *ℤ (x *ℤ y *ℤ z) ≡ x *ℤ x *ℤ (y *ℤ y) *ℤ (z *ℤ z)
square_of_product x y z = by_ring (x ∷ y ∷ z ∷ []) (search reify depth 64 fits 9999) tt

product_of_bounds : (a b c : ℤ) → b *ℤ c *ℤ (c *ℤ a +ℤ pos 1) *ℤ (a *ℤ b) ≡ a *ℤ b *ℤ c *ℤ (a *ℤ b *ℤ c) +ℤ b *ℤ c *ℤ (a *ℤ b)
product_of_bounds a b c = by_ring (a ∷ b ∷ c ∷ []) (search reify depth 64 fits 9999) tt

pub more_triples : (a b c X Y Z : ℕ) → 1 ≤ a → 1 ≤ b → 1 ≤ c → b * c ≤ X * X → c * a < Y * Y → a * b ≤ Z * Z → a * b * c < X * Y * Z
more_triples a b c X Y Z h_a h_b h_c h-x h_y h-z = lt_of_not-le λ fewer. impossible (mul-le-mul fewer fewer)
  where
    h_y' : c * a + 1 ≤ Y * Y
    h_y' = omega arith

    bounds : b * c * (c * a + 1) * (a * b) ≤ X * X * (Y * Y) * (Z * Z)
    bounds = mul-le-mul (mul-le-mul h-x h_y') h-z

    positive : 1 ≤ b * c * (a * b)
    positive = one-le-mul (one-le-mul h_b h_c) (one-le-mul h_a h_b)

    left : b * c * (c * a + 1) * (a * b) ≡ a * b * c * (a * b * c) + b * c * (a * b)
    left = ap nat_abs (product_of_bounds (pos a) (pos b) (pos c))

    right : X * Y * Z * (X * Y * Z) ≡ X * X * (Y * Y) * (Z * Z)
    right = ap nat_abs (square_of_product (pos X) (pos Y) (pos Z))

    impossible : X * Y * Z * (X * Y * Z) ≤ a * b * c * (a * b * c) → ⊥
    impossible h = omega (arith, bounds, positive, left, right)
