-- A row put into a buffer from a place on, the bytes after it as they were: the bytes up to its end, those after it,
-- and the length; and that this is what a row call on the rest of the buffer comes to. Assumes nothing.
use mathlib.Core.Bool.{Bool, true, false, cond}
use mathlib.Core.List.{List, ◌++◌, append_assoc, append-nil}
use mathlib.Core.Path.{◌≡◌, refl, ap, ap₂, sym, ◌∙◌, subst₂}
use Prim.Native.Nat.{ℕ, ◌+◌, ◌-◌, ◌≤◌, ◌<◌}
use native.Mathlib.Omega.{arith}
use borrow.Author.Tests.{ltb-true, ltb-false}
use borrow.Rule.Slice.PartMut.{mid_of, put_mid, Post-is}
use lib.ListN.{length, take, drop, length-append, length-drop, take-append-drop}
use lib.Seq.{drop-drop, drop_at, drop-length, take_at, take_all, length-take-le}
use Rattle.point.specs.declared.paper.Refusal.{Refusal}
use Rattle.std.specs.Prelude.{Ok, Err}
use Rattle.row.specs.Row.{row_of, buffer_limit, too_short, row_length, no_row, RowPromise, Written}

-- n bytes of a row from the place w on
pub placed : List ℕ → List ℕ → ℕ → ℕ → List ℕ
placed left row w n = take w left ++ (row ++ drop n (drop w left))

module _ (left row : List ℕ) (w n : ℕ) (size : n ≡ length row) (room : w + n ≤ length left) where
  start_length : length (take w left ++ row) ≡ w + n
  start_length =
      length-append (take w left) row ∙ ap₂ (λ (x y : ℕ). x + y) (length-take-le w left (omega arith)) (sym size)

  regrouped : placed left row w n ≡ (take w left ++ row) ++ drop (w + n) left
  unfolding placed
  regrouped =
      ap (λ (rest : List ℕ). take w left ++ (row ++ rest)) (drop-drop n w left)
      ∙ sym (append_assoc (take w left) row (drop (w + n) left))

  pub placed_start : take (w + n) (placed left row w n) ≡ take w left ++ row
  placed_start = rw regrouped (take_at (take w left ++ row) (drop (w + n) left) (w + n) start_length)

  pub placed_rest : drop (w + n) (placed left row w n) ≡ drop (w + n) left
  placed_rest = rw regrouped (drop_at (take w left ++ row) (drop (w + n) left) (w + n) start_length)

  pub placed_length : length (placed left row w n) ≡ length left
  placed_length =
      let split : length (placed left row w n) ≡ length (take w left ++ row) + length (drop (w + n) left) =
      ap length regrouped ∙ length-append (take w left ++ row) (drop (w + n) left)
      in
      omega (arith, split, start_length, length-drop (w + n) left)

-- a row call on the buffer from w on, with room for a row
pub record RowPlaced (text left : List ℕ) (w n : ℕ) (next : List ℕ) : Type 0 where
  pub room : buffer_limit ≤ length left - w
  pub row : n ≡ length (row_of text)
  pub within : w + n ≤ length left
  pub buffer : next ≡ placed left (row_of text) w n

-- the same without
pub record NoRoom (left : List ℕ) (w : ℕ) (next : List ℕ) : Type 0 where
  pub room : length left - w < buffer_limit
  pub buffer : next ≡ left

module _ (left : List ℕ) (w : ℕ) (here : w ≤ length left) where
  rest_is : mid_of w (length left - w) left ≡ drop w left
  rest_is = take_all (length left - w) (drop w left) (omega (arith, length-drop w left))

  put_is : (part : List ℕ) → put_mid w (length left - w) left part ≡ take w left ++ part
  put_is part =
      ap (λ (rest : List ℕ). take w left ++ (part ++ rest)) (Post-is w (length left) left here ∙ drop-length left)
      ∙ ap (λ (rest : List ℕ). take w left ++ rest) (append-nil part)

  wrote_row :
      (text part : List ℕ) (n : ℕ) → RowPromise text (drop w left) (Ok n) part → length part ≡ length (drop w left) →
      RowPlaced text left w n (take w left ++ part)
  unfolding too_short placed
  wrote_row text part n p l = go (too_short (drop w left)) refl p.answer p.buffer
    where
      go :
          (t : Bool) → too_short (drop w left) ≡ t → row_length n ≡ cond t (no_row 11) (row_length (length (row_of text))) →
          part ≡ cond t (drop w left) (row_of text ++ drop (length (row_of text)) (drop w left)) →
          RowPlaced text left w n (take w left ++ part)
      go true e a b = let z : ◌≡◌ {A = ℕ} 0 1 = cc in absurd (omega arith)
      go false e a b =
          let s : n ≡ length (row_of text) = cc in
          let size : length part ≡ length (row_of text) + length (drop (length (row_of text)) (drop w left)) =
          ap length b ∙ length-append (row_of text) (drop (length (row_of text)) (drop w left))
          in
          record {
            room = omega (arith, ltb-false (length (drop w left)) buffer_limit e, length-drop w left);
            row = s;
            within = omega (arith, size, length-drop w left);
            buffer = rw s (ap (λ (rest : List ℕ). take w left ++ rest) b);
          }

  wrote_nothing :
      (text part : List ℕ) (r : Refusal) → RowPromise text (drop w left) (Err r) part → NoRoom left w (take w left ++ part)
  unfolding too_short
  wrote_nothing text part r p = go (too_short (drop w left)) refl p.answer p.buffer
    where
      go :
          (t : Bool) → too_short (drop w left) ≡ t → Rattle.row.specs.Row.written (Err r) ≡ cond t (no_row 11) (row_length (length (row_of text))) →
          part ≡ cond t (drop w left) (row_of text ++ drop (length (row_of text)) (drop w left)) → NoRoom left w (take w left ++ part)
      go true e a b = record {
        room = omega (arith, ltb-true (length (drop w left)) buffer_limit e, length-drop w left);
        buffer = ap (λ (rest : List ℕ). take w left ++ rest) b ∙ take-append-drop w left;
      }
      go false e a b = let z : ◌≡◌ {A = ℕ} 0 1 = cc in absurd (omega arith)

  -- as the code lends the rest of the buffer and takes it back
  pub row_call :
      (text part : List ℕ) (r : Written) (n : ℕ) → r ≡ Ok n → RowPromise text (mid_of w (length left - w) left) r part →
      length part ≡ length (mid_of w (length left - w) left) → RowPlaced text left w n (put_mid w (length left - w) left part)
  row_call text part r n e p l =
      rw put_is
      (wrote_row text part n
      (subst₂ (λ (rest : List ℕ) (a : Written). RowPromise text rest a part) rest_is e p)
      (l ∙ ap length rest_is))

  pub no_room_call :
      (text part : List ℕ) (r : Written) (refusal : Refusal) → r ≡ Err refusal →
      RowPromise text (mid_of w (length left - w) left) r part → NoRoom left w (put_mid w (length left - w) left part)
  no_room_call text part r refusal e p =
      rw put_is
      (wrote_nothing text part refusal
      (subst₂ (λ (rest : List ℕ) (a : Written). RowPromise text rest a part) rest_is e p))
