-- A cutter holds the first 48 bytes of its row, and that is enough: a row of more than 47 bytes is refused whatever its
-- bytes, and a row is empty only if nothing is held. Assumes nothing.
use mathlib.Core.Bool.{Bool, true, false, cond}
use mathlib.Core.List.{List, [], ◌∷◌, ◌++◌}
use mathlib.Core.Path.{◌≡◌, refl, ap, sym, ◌∙◌}
use Prim.Native.Nat.{ℕ, ◌+◌, ◌≤◌, ◌<◌}
use native.Mathlib.Decide.{dec_le}
use native.Mathlib.Numerals.{add-one}
use native.Mathlib.Omega.{arith}
use lib.Dec.{ltb}
use lib.ListN.{length, take, set, length-append, length-take, length-set}
use lib.Seq.{take_all, take-append-le, take-suc-set}
use borrow.Author.Tests.{ltb-true, ltb-false}
use Rattle.row_reader.specs.Theorems.{LongTextIsNoRow}
use Rattle.row_reader.proofs.LongTexts.{long_text_is_no_row}
use Rattle.row.specs.Row.{row_of, verdict_on}
use Rattle.row.specs.Writing.{row_text}
use Rattle.rows.specs.Cutter.{holding, keep, emptied, held_text}
use Rattle.rows.specs.Input.{answers, last_row}
use Rattle.rows.specs.declared.Cutter.{Cutter}
use Rattle.rows.proofs.Held.{last_row_answered}

pub record Holds (c : Cutter) (text : List ℕ) : Type 0 where
  pub size : length c.held ≡ holding
  pub count : c.length ≡ length (take holding text)
  pub bytes : held_text c ≡ take holding text

pub holds_nothing : (c : Cutter) → length c.held ≡ holding → Holds (emptied c) []
unfolding held_text
holds_nothing c e = record { size = e; count = refl; bytes = refl }

module _ (c : Cutter) (text : List ℕ) (b : ℕ) (h : Holds c text) where
  kept_below : c.length < holding → Holds (record { held = set c.held c.length b; length = c.length + 1 }) (text ++ b ∷ [])
  unfolding held_text
  kept_below low =
      let short : length text < holding = omega (arith, h.count, length-take holding text) in
      let count : c.length ≡ length text = h.count ∙ ap length (take_all holding text (omega arith)) in
      let longer : length (text ++ b ∷ []) ≡ length text + 1 = length-append text (b ∷ []) in
      let all : take holding (text ++ b ∷ []) ≡ text ++ b ∷ [] = take_all holding (text ++ b ∷ []) (omega arith) in
      record {
        size = length-set c.held c.length b ∙ h.size;
        count = rw all (ap (λ (n : ℕ). n + 1) count ∙ sym longer);
        bytes =
            ap (λ (n : ℕ). take n (set c.held c.length b)) (add-one c.length)
            ∙ take-suc-set c.held c.length b (omega (arith, h.size))
            ∙ ap (λ (kept : List ℕ). kept ++ b ∷ []) (h.bytes ∙ take_all holding text (omega arith))
            ∙ sym all;
      }

  kept_full : holding ≤ c.length → Holds c (text ++ b ∷ [])
  kept_full high =
      let long : holding ≤ length text = omega (arith, h.count, length-take holding text) in
      let same : take holding (text ++ b ∷ []) ≡ take holding text = take-append-le holding text (b ∷ []) long in
      record { size = h.size; count = rw same h.count; bytes = rw same h.bytes }

  pub holds_kept : Holds (keep c b) (text ++ b ∷ [])
  unfolding keep
  holds_kept = go (ltb c.length holding) refl
    where
      go :
          (t : Bool) → ltb c.length holding ≡ t →
          Holds (cond t (record { held = set c.held c.length b; length = c.length + 1 }) c) (text ++ b ∷ [])
      go true e = kept_below (ltb-true c.length holding e)
      go false e = kept_full (ltb-false c.length holding e)

first_bytes : (text : List ℕ) → row_of (take holding text) ≡ row_of text
unfolding row_of LongTextIsNoRow
first_bytes text = go (dec_le (length text) holding)
  where
    go : Dec (length text ≤ holding) → row_of (take holding text) ≡ row_of text
    go (yes short) = ap row_of (take_all holding text short)
    go (no long) =
        ap (λ o. row_text (verdict_on o))
        (long_text_is_no_row (take holding text) (omega (arith, length-take holding text)) ∙ sym (long_text_is_no_row text (omega arith)))

first_last : (text : List ℕ) → answers (last_row (take holding text)) ≡ answers (last_row text)
first_last [] = refl
first_last (b ∷ text) =
    last_row_answered (take holding (b ∷ text)) (omega (arith, length-take holding (b ∷ text)))
    ∙ first_bytes (b ∷ text)
    ∙ sym (last_row_answered (b ∷ text) (omega arith))

module _ (c : Cutter) (text : List ℕ) (h : Holds c text) where
  pub same_row : row_of (held_text c) ≡ row_of text
  same_row = ap row_of h.bytes ∙ first_bytes text

  pub same_last : answers (last_row (held_text c)) ≡ answers (last_row text)
  same_last = ap (λ (kept : List ℕ). answers (last_row kept)) h.bytes ∙ first_last text
