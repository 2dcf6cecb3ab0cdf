-- What holds of the buffer between two conics: with the entries and bodies that are left, it is as it will be at the end. A conic that is
-- written leaves that so, and at the end the book is written. Assumes nothing.
use mathlib.Core.List.{List, ◌∷◌, ◌++◌}
use mathlib.Core.Path.{◌≡◌, refl, sym, ap, ap₂, ◌∙◌}
use Prim.Native.Nat.{ℕ, ◌+◌, ◌*◌, ◌≤◌, ◌<◌}
use native.Mathlib.Omega.{arith}
use lib.ListN.{length, drop, length-drop}
use lib.Seq.{sets, length-sets}
use Rattle.std.proofs.lemmas.List.{drop_all}
use Rattle.conic.specs.declared.conic.Conic.{Conic}
use Rattle.solve.specs.Solve.{solve_of}
use Rattle.book.specs.Bytes.{bytes}
use Rattle.book.specs.Layout.{kind_of, coefficients, added}
use Rattle.book.specs.Steps.{ConicFits, with_conic, ConicPut, BookPut}
use Rattle.book.specs.Writer.{entries, bodies, book_of}
use Rattle.book.proofs.Laid.{laid, laid_more, laid_book}
use Rattle.book.proofs.Lengths.{length_book, length_left, length_none}

pub record Between (hs : List Conic) (first book : List ℕ) (offset i : ℕ) : Type 0 where
  pub same_length : length book ≡ length first
  pub contents : 2 + 3 * length hs ≤ offset
  pub total : offset + length (bodies (drop i hs)) ≡ length (book_of hs)
  pub left : laid book (2 + 3 * i) offset (drop i hs) ≡ laid first 2 (2 + 3 * length hs) hs

module _ (hs : List Conic) where
  pub between_start : (first : List ℕ) → Between hs first first (2 + 3 * length hs) 0
  between_start first = record { same_length = refl; contents = omega arith; total = sym (length_book hs); left = refl }

  module _ {first book : List ℕ} {offset i : ℕ} {h : Conic} (b : Between hs first book offset i)
      (next : drop i hs ≡ h ∷ drop (i + 1) hs) where
    below : i < length hs
    below = omega (arith, length-drop i hs, ap length next)

    pub next_fits : length (book_of hs) ≤ length first → ConicFits book (2 + 3 * i) offset h
    next_fits room =
        let more = length_left next in record { entry_room = omega (arith, below); body_room = omega arith }

    pub between_next : {r : ℕ} {after : List ℕ} → ConicPut book (2 + 3 * i) offset h r after → Between hs first after r (i + 1)
    unfolding with_conic
    between_next {r} {after} put =
        let rest = drop (i + 1) hs in
        let more = length_left next in
        let entry : 2 + 3 * (i + 1) ≡ 2 + 3 * i + 3 = omega arith in
        let room : 2 + 3 * i + 3 * length (h ∷ rest) ≤ offset = omega (arith, below, length-drop (i + 1) hs) in
        record {
          same_length =
              ap length put.book
              ∙ length-sets (sets book (2 + 3 * i) (kind_of (solve_of h) ∷ bytes 2 offset)) offset (coefficients h ++ added (solve_of h))
              ∙ length-sets book (2 + 3 * i) (kind_of (solve_of h) ∷ bytes 2 offset)
              ∙ b.same_length;
          contents = omega arith;
          total = omega (arith, put.next);
          left =
              ap (λ (e : ℕ). laid after e r rest) entry
              ∙ ap₂ (λ (l : List ℕ) (n : ℕ). laid l (2 + 3 * i + 3) n rest) put.book put.next
              ∙ laid_more book (2 + 3 * i) offset h rest room
              ∙ ap (laid book (2 + 3 * i) offset) (sym next)
              ∙ b.left;
        }

  pub between_end :
      {first book : List ℕ} {offset i : ℕ} (before : List ℕ) → Between hs first book offset i → length hs ≤ i →
      first ≡ sets before 0 (bytes 2 (length hs)) → length (book_of hs) ≤ length before → BookPut before hs offset book
  unfolding entries bodies
  between_end {book = book} {offset} {i} before b end counted room =
      record {
        book =
            sym (ap (laid book (2 + 3 * i) offset) (drop_all i hs end))
            ∙ b.left
            ∙ ap (λ (l : List ℕ). laid l 2 (2 + 3 * length hs) hs) counted
            ∙ laid_book before hs room;
        length_is = omega (arith, b.total, length_none hs end);
      }
