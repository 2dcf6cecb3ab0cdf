-- Runs of stores into a list: runs at places that do not meet can change places, by induction on a run from single stores; and three
-- runs of four are one run. Assumes nothing.
use mathlib.Core.List.{List, [], ◌∷◌, ◌++◌}
use mathlib.Core.Path.{◌≡◌, refl, sym, ap, ap₂, ◌∙◌}
use Prim.Native.Nat.{ℕ, suc, ◌+◌, ◌≤◌, ◌<◌}
use native.Mathlib.Omega.{arith}
use lib.ListN.{length, length-append, set}
use lib.Seq.{set_comm, sets}
use Rattle.point.proofs.Stores.{sets_append}

module _ {A : Type 0} where
  -- a store before a run
  set_sets : (l : List A) (i : ℕ) (v : A) (j : ℕ) (ws : List A) → i < j → set (sets l j ws) i v ≡ sets (set l i v) j ws
  set_sets l i v j [] h = refl
  set_sets l i v j (w ∷ ws) h =
      set_sets (set l j w) i v (suc j) ws (omega arith)
      ∙ ap (λ (m : List A). sets m (suc j) ws) (sym (set_comm l i j v w (omega arith)))

  pub sets_comm :
      (l : List A) (i : ℕ) (vs : List A) (j : ℕ) (ws : List A) → i + length vs ≤ j →
      sets (sets l j ws) i vs ≡ sets (sets l i vs) j ws
  sets_comm l i [] j ws h = refl
  sets_comm l i (v ∷ vs) j ws h =
      ap (λ (m : List A). sets m (suc i) vs) (set_sets l i v j ws (omega arith))
      ∙ sets_comm (set l i v) (suc i) vs j ws (omega arith)

  -- three runs of four
  pub sets_three :
      (l m k r : List A) (i : ℕ) (us vs ws : List A) → length us ≡ 4 → length vs ≡ 4 →
      m ≡ sets l i us → k ≡ sets m (i + 4) vs → r ≡ sets k (i + 8) ws → r ≡ sets l i (us ++ vs ++ ws)
  sets_three l m k r i us vs ws four eight first second third =
      let two : k ≡ sets l i (us ++ vs) = second ∙ ap₂ (λ (n : List A) (j : ℕ). sets n (i + j) vs) first (sym four) ∙ sym (sets_append l i us vs) in
      let place : i + 8 ≡ i + length (us ++ vs) = omega (arith, length-append us vs) in
      third ∙ ap₂ (λ (n : List A) (j : ℕ). sets n j ws) two place ∙ sym (sets_append l i (us ++ vs) ws)
