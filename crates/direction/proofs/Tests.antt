-- The tests of the definitions say what they are named for: two points are the same, a base is legal. Assumes nothing.
use mathlib.Core.Path.{◌≡◌, ap, ap₂, ◌∙◌}
use mathlib.Core.Logic.{◌≢◌, ◌↔◌}
use mathlib.Core.Bool.{true, false, ◌&&◌, and-eq-true_iff}
use lib.IntN.{ℤ, ◌-ℤ◌, +ℤ_invr}
use Rattle.std.specs.Ordering.{int_eq}
use Rattle.std.proofs.lemmas.Bool.Decides.{same_from_decides, Decides-like, Decides-and, Decides-int_eq}
use Rattle.whole.proofs.Laws.{equal_of_difference}
use Rattle.number.proofs.Least.{true_of_T, false_of_not_true}
use Rattle.point.specs.Paper.{is_zero}
use Rattle.point.specs.Legal.{is_base}
use Rattle.point.specs.declared.Point.{Point}
use Rattle.point.proofs.Vector.{same_point}
use Rattle.point.proofs.Tests.{is_zero_iff, is_base_iff}
use Rattle.conic.specs.Base.{LegalBase}
use Rattle.conic.specs.declared.conic.Conic.{Conic}
use Rattle.direction.specs.Direction.{is_same}
use Rattle.direction.specs.Demand3.{Based}

difference_zero : {m n : ℤ} → m ≡ n → is_zero (m -ℤ n) ≡ true
difference_zero {m} {n} e = is_zero_iff.1 (ap (λ k. k -ℤ n) e ∙ +ℤ_invr n)

pub is_same_iff : {p q : Point} → (is_same p q ≡ true) ↔ (p ≡ q)
unfolding is_same
is_same_iff {p} {q} = (
  λ e.
      let (ab, c) = (and-eq-true_iff _ _).0 e in
      let (a, b) = (and-eq-true_iff _ _).0 ab in
      same_point
      (equal_of_difference p.x q.x (is_zero_iff.0 a))
      (equal_of_difference p.y q.y (is_zero_iff.0 b))
      (equal_of_difference p.z q.z (is_zero_iff.0 c)),
  λ e.
      ap₂ ◌&&◌ (ap₂ ◌&&◌ (difference_zero (ap (λ v. v.x) e)) (difference_zero (ap (λ v. v.y) e)))
      (difference_zero (ap (λ v. v.z) e)),
)

pub is_same_not : {p q : Point} → p ≢ q → is_same p q ≡ false
is_same_not f = false_of_not_true λ e. f (is_same_iff.0 e)

-- what `==` tests, number by number
pub same_test : (p q : Point) → int_eq p.x q.x && (int_eq p.y q.y && int_eq p.z q.z) ≡ is_same p q
same_test p q =
    same_from_decides _ _
    (Decides-like _ (λ e. same_point e.0 e.1.0 e.1.1) (λ e. (ap (λ v. v.x) e, (ap (λ v. v.y) e, ap (λ v. v.z) e)))
    (Decides-and _ _ (Decides-int_eq p.x q.x) (Decides-and _ _ (Decides-int_eq p.y q.y) (Decides-int_eq p.z q.z))))
    is_same_iff

-- a legal base is a base of the steps
pub legal_is_based : {h : Conic} {p : Point} → LegalBase h p → Based h p
legal_is_based {h} {p} l =
    let (within, normal, above) = is_base_iff.0 (true_of_T (is_base p) l.legal) in
    record {
      not_degenerate = l.not_degenerate;
      on_conic = record { normal_form = normal; on = l.on };
      in_plane = above;
    }
