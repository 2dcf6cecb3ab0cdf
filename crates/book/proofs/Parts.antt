-- Where the parts of a list's book lie: entry i three bytes an entry after the count, and body i after the bodies before it. By
-- induction on the conics. Assumes nothing.
use mathlib.Core.List.{List, [], ◌∷◌, ◌++◌, append_assoc}
use mathlib.Core.Path.{◌≡◌, refl, sym, ap, ◌∙◌}
use Prim.Native.Nat.{ℕ, zero, suc, ◌+◌, ◌*◌, ◌≤◌, ◌<◌}
use native.Mathlib.Nat.{add-zero}
use native.Mathlib.Omega.{arith}
use lib.ListN.{length, get_or, take, drop, length-append, take-append-drop}
use lib.Seq.{take-suc, take-length, drop-cons, drop-append-le, drop-append-add, drop-append_seam}
use Rattle.conic.specs.declared.conic.Conic.{Conic}
use Rattle.solve.specs.Solve.{solve_of}
use Rattle.book.specs.Bytes.{bytes}
use Rattle.book.specs.Layout.{body_length, kind_of, coefficients, added}
use Rattle.book.specs.Writer.{entries, bodies, book_of}
use Rattle.book.proofs.Lengths.{length_bodies, length_entries, length_book}

-- where body i starts
abbrev pub start_of : List Conic → ℕ → ℕ
start_of hs i = 2 + 3 * length hs + length (bodies (take i hs))

bodies_append : (gs hs : List Conic) → bodies (gs ++ hs) ≡ bodies gs ++ bodies hs
unfolding bodies
bodies_append [] hs = refl
bodies_append (g ∷ gs) hs =
    ap (λ (l : List ℕ). coefficients g ++ added (solve_of g) ++ l) (bodies_append gs hs)
    ∙ sym (append_assoc (coefficients g ++ added (solve_of g)) (bodies gs) (bodies hs))

entries_from :
    (i offset : ℕ) (hs : List Conic) → i ≤ length hs →
    drop (3 * i) (entries offset hs) ≡ entries (offset + length (bodies (take i hs))) (drop i hs)
unfolding entries bodies bytes
entries_from zero offset hs h = ap (λ (n : ℕ). entries n hs) (sym (add-zero offset))
entries_from (suc i) offset [] h = absurd (omega arith)
entries_from (suc i) offset (h ∷ hs) k =
    let three : 3 * suc i ≡ suc (suc (suc (3 * i))) = omega arith in
    let next : ℕ = offset + body_length (kind_of (solve_of h)) in
    let place : next + length (bodies (take i hs)) ≡ offset + length (bodies (h ∷ take i hs)) = omega (arith, length_bodies h (take i hs)) in
    ap (λ (n : ℕ). drop n (entries offset (h ∷ hs))) three ∙ entries_from i next hs (omega arith)
    ∙ ap (λ (n : ℕ). entries n (drop i hs)) place

module _ (hs : List Conic) (i : ℕ) (h : Conic) (below : i < length hs) where
  -- entry i, and what comes after it
  pub entry_at :
      (rest : List ℕ) ×
      (drop (2 + 3 * i) (book_of hs) ≡ kind_of (solve_of (get_or hs i h)) ∷ bytes 2 (start_of hs i) ++ rest)
  unfolding book_of entries bytes
  entry_at =
      let all : List ℕ = entries (2 + 3 * length hs) hs in
      let two : 2 + 3 * i ≡ suc (suc (3 * i)) = omega arith in (
        entries (start_of hs i + body_length (kind_of (solve_of (get_or hs i h)))) (drop (suc i) hs) ++ bodies hs,
        ap (λ (n : ℕ). drop n (book_of hs)) two
            ∙ drop-append-le (3 * i) all (bodies hs) (omega (arith, length_entries (2 + 3 * length hs) hs))
            ∙ ap (λ (l : List ℕ). l ++ bodies hs)
            (entries_from i (2 + 3 * length hs) hs (omega arith) ∙ ap (entries (start_of hs i)) (drop-cons hs i h below)),
      )

  -- body i, and what comes after it
  pub body_at :
      (rest : List ℕ) ×
      (drop (start_of hs i) (book_of hs) ≡ coefficients (get_or hs i h) ++ added (solve_of (get_or hs i h)) ++ rest)
  unfolding book_of bodies bytes
  body_at =
      let contents : List ℕ = bytes 2 (length hs) ++ entries (2 + 3 * length hs) hs in
      let before : ℕ = length (bodies (take i hs)) in
      let place : start_of hs i ≡ length contents + before = omega (arith, length_entries (2 + 3 * length hs) hs) in (
        bodies (drop (suc i) hs),
        ap (λ (n : ℕ). drop n (book_of hs)) place ∙ drop-append-add contents (bodies hs) before
            ∙ ap (drop before) (ap bodies (sym (take-append-drop i hs)) ∙ bodies_append (take i hs) (drop i hs))
            ∙ drop-append_seam (bodies (take i hs)) (bodies (drop i hs))
            ∙ ap bodies (drop-cons hs i h below),
      )

  pub start_more : start_of hs (suc i) ≡ start_of hs i + body_length (kind_of (solve_of (get_or hs i h)))
  unfolding bodies
  start_more =
      let g : Conic = get_or hs i h in
      let one : length (bodies (take (suc i) hs)) ≡ length (bodies (take i hs) ++ bodies (g ∷ [])) =
      ap (λ (gs : List Conic). length (bodies gs)) (take-suc hs i h below) ∙ ap length (bodies_append (take i hs) (g ∷ [])) in
      omega (arith, one, length-append (bodies (take i hs)) (bodies (g ∷ [])), length_bodies g [])

pub start_within : (hs : List Conic) (i : ℕ) → start_of hs i ≤ length (book_of hs)
start_within hs i =
    let all : length (bodies hs) ≡ length (bodies (take i hs) ++ bodies (drop i hs)) =
    ap length (ap bodies (sym (take-append-drop i hs)) ∙ bodies_append (take i hs) (drop i hs)) in
    omega (arith, length_book hs, all, length-append (bodies (take i hs)) (bodies (drop i hs)))

pub start_end : (hs : List Conic) → start_of hs (length hs) ≡ length (book_of hs)
start_end hs = ap (λ (gs : List Conic). 2 + 3 * length hs + length (bodies gs)) (take-length hs) ∙ sym (length_book hs)
