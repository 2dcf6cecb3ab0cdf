-- `point::Point::leading` meets its contract: only 0 has the bits 0, and each number is read back from its bits.
-- Assumes nothing.
use mathlib.Core.Path.{◌≡◌, refl, ◌∙◌}
use Prim.Native.Nat.{zero, suc}
use native.Mathlib.Omega.{arith}
use lib.IntN.{ℤ, pos, negsuc}
use mir.Syntax.{w64}
use mir.Val.{SFits, of_z, to_z}
use mir.Facts.{to_z-of_z}
use borrow.Author.Rules.{sfits_of}
use Rattle.point.specs.Normal.{or_else, leading}
use Rattle.point.specs.declared.Point.{Point}
use Rattle.point.proofs.Point.leading.Goals as goal

not_zero : (m n : ℤ) → (of_z w64 m ≡ 0 → ⊥) → m ≡ or_else m n
unfolding or_else
not_zero (pos zero) n f = absurd (f refl)
not_zero (pos (suc m)) n f = refl
not_zero (negsuc m) n f = refl

is_zero_lem : (m n : ℤ) → SFits w64 m → of_z w64 m ≡ 0 → n ≡ or_else m n
unfolding or_else
is_zero_lem (pos zero) n h e = refl
is_zero_lem (pos (suc m)) n h e = absurd (omega arith)
is_zero_lem (negsuc m) n h e = absurd (omega (arith, h.sfits))

z_leads : (p : Point) → SFits w64 p.z → (of_z w64 p.z ≡ 0 → ⊥) → to_z w64 (of_z w64 p.z) ≡ leading p
unfolding leading
z_leads p h f = to_z-of_z h ∙ not_zero p.z (or_else p.x p.y) f

x_leads : (p : Point) → SFits w64 p.z → of_z w64 p.z ≡ 0 → SFits w64 p.x → (of_z w64 p.x ≡ 0 → ⊥) → to_z w64 (of_z w64 p.x) ≡ leading p
unfolding leading
x_leads p h e g f = to_z-of_z g ∙ not_zero p.x p.y f ∙ is_zero_lem p.z (or_else p.x p.y) h e

y_leads : (p : Point) → SFits w64 p.z → of_z w64 p.z ≡ 0 → SFits w64 p.x → of_z w64 p.x ≡ 0 → SFits w64 p.y → to_z w64 (of_z w64 p.y) ≡ leading p
unfolding leading
y_leads p h e g f k = to_z-of_z k ∙ is_zero_lem p.x p.y g f ∙ is_zero_lem p.z (or_else p.x p.y) h e

pub returns-then-self-ne0 : goal.returns-then-self-ne0
returns-then-self-ne0 c = search (z_leads, sfits_of) depth 60 fits 9999

pub returns-then-self-ne0-2 : goal.returns-then-self-ne0-2
returns-then-self-ne0-2 c = search (x_leads, sfits_of) depth 60 fits 9999

pub returns-else-self-ne0-2 : goal.returns-else-self-ne0-2
returns-else-self-ne0-2 c = search (y_leads, sfits_of) depth 60 fits 9999
