-- What `judge` says, by the paper's causes: legal for exactly what the direction entries ask for, and each of 1, 2, 5,
-- 6 exactly where it is the first to apply. Assumes nothing.
use Rattle.std.specs.Prelude.{◌≡◌, ◌↔◌, ℕ, T, pos}
use Rattle.point.specs.Legal.{is_base}
use Rattle.point.specs.declared.Point.{Point}
use Rattle.conic.specs.Form.{G, Δ}
use Rattle.conic.specs.Base.{in_range, legal, refused, judged_of, LegalBase}
use Rattle.conic.specs.declared.conic.Conic.{Conic}

-- what is asked of the conic alone
pub record LegalConic (h : Conic) : Type 0 where
  pub in_range : T (in_range h)
  pub not_degenerate : ¬ (Δ h ≡ pos 0)

-- why a number is given for a conic with its base
pub data BaseCause (h : Conic) (p : Point) : ℕ → Type 0 where
  out_of_range : ¬ T (in_range h) → BaseCause h p 1
  degenerate : T (in_range h) → Δ h ≡ pos 0 → BaseCause h p 2
  no_base : LegalConic h → ¬ T (is_base p) → BaseCause h p 5
  base_off : LegalConic h → T (is_base p) → ¬ (G h p ≡ pos 0) → BaseCause h p 6

-- a number is given exactly for its cause, and no other number is given
unfoldable pub JudgeRefusesExactly : Type 0
JudgeRefusesExactly = (h : Conic) (p : Point) (n : ℕ) → judged_of h p ≡ refused n ↔ BaseCause h p n

-- a conic with its base is judged legal exactly if it is
unfoldable pub LegalExactly : Type 0
LegalExactly = (h : Conic) (p : Point) → judged_of h p ≡ legal ↔ LegalBase h p
