-- A refusal can be told from its number in the paper, so two with the same number are equal. Assumes nothing.
use mathlib.Core.Path.{◌≡◌, refl, sym, ap, ◌∙◌}
use mathlib.Core.List.{[], ◌∷◌}
use Prim.Native.Nat.{ℕ}
use lib.ListN.{get_or}
use Rattle.point.specs.Paper.{number}
use Rattle.point.specs.declared.paper.Refusal.{Refusal}

-- what goes there and back is determined by what it becomes
pub told_apart : {A B : Type 0} (f : A → B) (back : B → A) → ((a : A) → back (f a) ≡ a) → (a a' : A) → f a ≡ f a' → a ≡ a'
told_apart f back there a a' e = sym (there a) ∙ ap back e ∙ there a'

-- the refusal of a number; any where there is none
abbrev pub numbered : ℕ → Refusal
numbered n =
    get_or
    (Refusal.Range ∷
    Refusal.Range ∷
    Refusal.Degenerate ∷
    Refusal.Range ∷
    Refusal.Range ∷
    Refusal.Base ∷
    Refusal.BaseOff ∷
    Refusal.Direction ∷
    Refusal.Target ∷
    Refusal.TargetOff ∷
    Refusal.Row ∷
    Refusal.Buffer ∷
    Refusal.Layout ∷
    Refusal.Body ∷
    Refusal.Room ∷
    Refusal.List ∷
    Refusal.Number ∷
    [])
    n
    Refusal.Range

pub numbered_number : (r : Refusal) → numbered (number r) ≡ r
numbered_number Refusal.Range = refl
numbered_number Refusal.Degenerate = refl
numbered_number Refusal.Base = refl
numbered_number Refusal.BaseOff = refl
numbered_number Refusal.Direction = refl
numbered_number Refusal.Target = refl
numbered_number Refusal.TargetOff = refl
numbered_number Refusal.Row = refl
numbered_number Refusal.Buffer = refl
numbered_number Refusal.Layout = refl
numbered_number Refusal.Body = refl
numbered_number Refusal.Room = refl
numbered_number Refusal.List = refl
numbered_number Refusal.Number = refl

pub same_refusal : (r r' : Refusal) → number r ≡ number r' → r ≡ r'
same_refusal = told_apart number numbered numbered_number
