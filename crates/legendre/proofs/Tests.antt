-- Tests joined: what it says of its parts that a test of both, of either, of not or of an implication holds. By cases on the parts.
-- Assumes nothing.
use mathlib.Core.Path.{◌≡◌, refl}
use mathlib.Core.Logic.{◌⊎◌, inl, inr, ⊎_elim, ◌↔◌}
use mathlib.Core.Bool.{Bool, true, false, ◌&&◌, ◌||◌, not, false≢true}

pub all_three_iff : (a b c : Bool) → (a && b && c ≡ true) ↔ ((a ≡ true) × (b ≡ true) × (c ≡ true))
all_three_iff true true c = (λ e. (refl, refl, e), λ h. h.2)
all_three_iff true false c = (λ e. absurd (false≢true e), λ h. h.1)
all_three_iff false b c = (λ e. absurd (false≢true e), λ h. h.0)

pub implied_iff : (a b : Bool) → (not a || b ≡ true) ↔ (a ≡ true → b ≡ true)
implied_iff true b = (λ e h. e, λ f. f refl)
implied_iff false b = (λ e h. absurd (false≢true h), λ f. refl)

pub not_iff : (b : Bool) → (not b ≡ true) ↔ ¬ (b ≡ true)
not_iff true = (λ e h. false≢true e, λ f. absurd (f refl))
not_iff false = (λ e h. false≢true h, λ f. refl)

pub either_iff : (a b : Bool) → (a || b ≡ true) ↔ ((a ≡ true) ⊎ (b ≡ true))
either_iff true b = (inl, λ h. refl)
either_iff false b = (inr, λ h. ⊎_elim (λ e. absurd (false≢true e)) (λ e. e) h)
