-- Points as vectors of three whole numbers: multiples, sums of multiples, the zero vector, and proportional vectors (all 2×2 minors
-- are 0), which are those with a common multiple by factors that are not 0. Assumes nothing.
use mathlib.Core.Path.{◌≡◌, sym, ap, ap₂, ◌∙◌, subst}
use mathlib.Core.Logic.{◌≢◌}
use native.Mathlib.Nat.{suc-ne-zero}
use lib.IntN.{ℤ, pos, nat_abs, ◌+ℤ◌, ◌*ℤ◌, ℤ_discrete, *ℤ_comm, zero-*ℤ}
use Rattle.whole.proofs.Laws.{one-*ℤ, *ℤ_assoc, *ℤ_swap_middle}
use Rattle.whole.proofs.Products.{*ℤ_cancel}
use Rattle.whole.proofs.Cancel.{other_factor_zero, product_not_zero}
use Rattle.point.specs.declared.Point.{Point}

-- k·P
abbrev pub scaled : ℤ → Point → Point
scaled k p = record { x = k *ℤ p.x; y = k *ℤ p.y; z = k *ℤ p.z }

-- αP + βT
abbrev pub line : ℤ → Point → ℤ → Point → Point
line α p β t =
    record { x = α *ℤ p.x +ℤ β *ℤ t.x; y = α *ℤ p.y +ℤ β *ℤ t.y; z = α *ℤ p.z +ℤ β *ℤ t.z }

abbrev pub unit_x : Point
unit_x = record { x = pos 1; y = pos 0; z = pos 0 }

abbrev pub unit_y : Point
unit_y = record { x = pos 0; y = pos 1; z = pos 0 }

abbrev pub unit_z : Point
unit_z = record { x = pos 0; y = pos 0; z = pos 1 }

pub same_point : {p q : Point} → p.x ≡ q.x → p.y ≡ q.y → p.z ≡ q.z → p ≡ q
same_point f g e = λ i. record { x = f i; y = g i; z = e i }

pub one_not_zero : pos 1 ≢ pos 0
one_not_zero e = suc-ne-zero 0 (ap nat_abs e)

pub scaled_one : (p : Point) → scaled (pos 1) p ≡ p
scaled_one p = same_point (one-*ℤ p.x) (one-*ℤ p.y) (one-*ℤ p.z)

pub scaled_twice : (k l : ℤ) (p : Point) → scaled k (scaled l p) ≡ scaled (k *ℤ l) p
scaled_twice k l p = sym (same_point (*ℤ_assoc k l p.x) (*ℤ_assoc k l p.y) (*ℤ_assoc k l p.z))

pub cancel_scaled : (k : ℤ) {p q : Point} → k ≢ pos 0 → scaled k p ≡ scaled k q → p ≡ q
cancel_scaled k f e =
    same_point
    (*ℤ_cancel k f (ap (λ v. v.x) e))
    (*ℤ_cancel k f (ap (λ v. v.y) e))
    (*ℤ_cancel k f (ap (λ v. v.z) e))

-- ---- the zero vector

abbrev pub Zero : Point → Type 0
Zero p = (p.x ≡ pos 0) × (p.y ≡ pos 0) × (p.z ≡ pos 0)

pub data SomeNotZero (p : Point) : Type 0 where
  x_not_zero : p.x ≢ pos 0 → SomeNotZero p
  y_not_zero : p.y ≢ pos 0 → SomeNotZero p
  z_not_zero : p.z ≢ pos 0 → SomeNotZero p

pub some_not_zero : {p : Point} → ¬ Zero p → SomeNotZero p
some_not_zero {p} f = by_x (ℤ_discrete p.x (pos 0))
  where
    by_z : p.x ≡ pos 0 → p.y ≡ pos 0 → Dec (p.z ≡ pos 0) → SomeNotZero p
    by_z a b (yes c) = absurd (f (a, b, c))
    by_z a b (no c) = z_not_zero c

    by_y : p.x ≡ pos 0 → Dec (p.y ≡ pos 0) → SomeNotZero p
    by_y a (yes b) = by_z a b (ℤ_discrete p.z (pos 0))
    by_y a (no b) = y_not_zero b

    by_x : Dec (p.x ≡ pos 0) → SomeNotZero p
    by_x (yes a) = by_y a (ℤ_discrete p.y (pos 0))
    by_x (no a) = x_not_zero a

pub zero_scaled : {k : ℤ} (p : Point) → k ≡ pos 0 → Zero (scaled k p)
zero_scaled {k} p e = (vanishes p.x, vanishes p.y, vanishes p.z)
  where
    vanishes : (m : ℤ) → k *ℤ m ≡ pos 0
    vanishes m = ap (λ c. c *ℤ m) e ∙ zero-*ℤ m

pub zero_of_scaled : {k : ℤ} {p : Point} → k ≢ pos 0 → Zero (scaled k p) → Zero p
zero_of_scaled f (a, b, c) = (other_factor_zero f a, other_factor_zero f b, other_factor_zero f c)

pub scaled_not_zero : {k : ℤ} {p : Point} → k ≢ pos 0 → ¬ Zero p → ¬ Zero (scaled k p)
scaled_not_zero f g e = g (zero_of_scaled f e)

-- ---- proportional vectors

pub record Proportional (p q : Point) : Type 0 where
  pub x_y : p.x *ℤ q.y ≡ q.x *ℤ p.y
  pub x_z : p.x *ℤ q.z ≡ q.x *ℤ p.z
  pub y_z : p.y *ℤ q.z ≡ q.y *ℤ p.z

-- a multiple of one is a multiple of the other
pub record Aligned (p q : Point) : Type 0 where
  pub left : ℤ
  pub right : ℤ
  pub left_not_zero : left ≢ pos 0
  pub right_not_zero : right ≢ pos 0
  pub same : scaled left p ≡ scaled right q

pub aligned_multiple : {k : ℤ} {p : Point} → k ≢ pos 0 → Aligned (scaled k p) p
aligned_multiple {k} {p} f =
    record { left = pos 1; right = k; left_not_zero = one_not_zero; right_not_zero = f; same = scaled_one (scaled k p) }

minor : {a b : ℤ} (m n m' n' : ℤ) → a ≢ pos 0 → b ≢ pos 0 → a *ℤ m ≡ b *ℤ n → a *ℤ m' ≡ b *ℤ n' → m *ℤ n' ≡ n *ℤ m'
minor {a} {b} m n m' n' f g e e' =
    *ℤ_cancel (a *ℤ b) (product_not_zero f g)
    (*ℤ_swap_middle a b m n' ∙ ap₂ ◌*ℤ◌ e (sym e') ∙ *ℤ_swap_middle b n a m' ∙ ap (λ c. c *ℤ (n *ℤ m')) (*ℤ_comm b a))

pub aligned_proportional : {p q : Point} → Aligned p q → Proportional p q
aligned_proportional {p} {q} r =
    record {
      x_y = minor p.x q.x p.y q.y r.left_not_zero r.right_not_zero at_x at_y;
      x_z = minor p.x q.x p.z q.z r.left_not_zero r.right_not_zero at_x at_z;
      y_z = minor p.y q.y p.z q.z r.left_not_zero r.right_not_zero at_y at_z;
    }
  where
    at_x : r.left *ℤ p.x ≡ r.right *ℤ q.x
    at_x = ap (λ v. v.x) r.same

    at_y : r.left *ℤ p.y ≡ r.right *ℤ q.y
    at_y = ap (λ v. v.y) r.same

    at_z : r.left *ℤ p.z ≡ r.right *ℤ q.z
    at_z = ap (λ v. v.z) r.same

-- by a number of q and the number of p in the same place
aligned_by : {p q : Point} (a b : ℤ) → a ≢ pos 0 → ¬ Zero q → scaled b p ≡ scaled a q → Aligned p q
aligned_by {p} {q} a b f g e =
    record {
      left = b;
      right = a;
      left_not_zero = λ z. g (zero_of_scaled f (subst Zero e (zero_scaled p z)));
      right_not_zero = f;
      same = e;
    }

turned : (m n m' n' : ℤ) → m *ℤ n' ≡ n *ℤ m' → n' *ℤ m ≡ m' *ℤ n
turned m n m' n' e = *ℤ_comm n' m ∙ e ∙ *ℤ_comm n m'

pub proportional_aligned : {p q : Point} → ¬ Zero p → ¬ Zero q → Proportional p q → Aligned p q
proportional_aligned {p} {q} f g r = pick (some_not_zero f)
  where
    pick : SomeNotZero p → Aligned p q
    pick (x_not_zero h) = aligned_by p.x q.x h g (same_point (*ℤ_comm q.x p.x) (sym r.x_y) (sym r.x_z))
    pick (y_not_zero h) = aligned_by p.y q.y h g (same_point (turned p.x q.x p.y q.y r.x_y) (*ℤ_comm q.y p.y) (sym r.y_z))
    pick (z_not_zero h) = aligned_by p.z q.z h g (same_point (turned p.x q.x p.z q.z r.x_z) (turned p.y q.y p.z q.z r.y_z) (*ℤ_comm q.z p.z))
