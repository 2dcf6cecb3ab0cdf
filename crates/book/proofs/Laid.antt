-- What is left to write: the entries and bodies of the conics from a place on. A conic's own entry and body are the first of them, and
-- all of them with the count are the book. Assumes nothing.
use mathlib.Core.List.{List, ◌∷◌, ◌++◌}
use mathlib.Core.Path.{◌≡◌, sym, ap, ap₂, ◌∙◌}
use Prim.Native.Nat.{ℕ, ◌+◌, ◌*◌, ◌≤◌, ◌<◌}
use native.Mathlib.Omega.{arith}
use lib.ListN.{length, get_or, take, drop}
use lib.Seq.{sets, sets-eq, paste}
use Rattle.std.proofs.lemmas.List.{take_all}
use Rattle.point.specs.Paper.{Verdict}
use Rattle.point.proofs.Stores.{sets_append, sets_front}
use Rattle.conic.specs.declared.conic.Conic.{Conic}
use Rattle.solve.specs.Solve.{solve_of}
use Rattle.book.specs.Bytes.{bytes}
use Rattle.book.specs.Layout.{body_length, kind_of, coefficients, added, conic_at}
use Rattle.book.specs.Steps.{with_conic}
use Rattle.book.specs.Writer.{entries, bodies, book_of}
use Rattle.book.proofs.Lengths.{length_body, length_entries}
use Rattle.book.proofs.Listed.{coefficients_back}
use Rattle.book.proofs.Stores.{sets_comm}

-- a copy of six bytes, and what an answer adds
pub body_stored :
    (six book : List ℕ) {m r : List ℕ} (at : ℕ) (v : Verdict) → length six ≡ 6 → ((i : ℕ) → get_or six i 0 < 256) →
    at + 6 ≤ length book → m ≡ paste book at six 6 → r ≡ sets m (at + 6) (added v) →
    r ≡ sets book at (coefficients (conic_at six 0) ++ added v)
unfolding coefficients
body_stored six book {m} {r} at v long small room copied stored =
    let own : List ℕ = coefficients (conic_at six 0) in
    let back = coefficients_back six long small in
    let bytes_copied : m ≡ sets book at own =
    copied ∙ ap (λ (l : List ℕ). take at book ++ l ++ drop (at + 6) book) (take_all 6 six (omega arith) ∙ sym back)
    ∙ sym (sets-eq own book at room) in
    stored ∙ ap (λ (l : List ℕ). sets l (at + 6) (added v)) bytes_copied ∙ sym (sets_append book at own (added v))

-- an entry and a body, of a kind and a verdict that are the conic's
pub conic_stored :
    (book m r : List ℕ) (entry offset : ℕ) (h : Conic) {kind : ℕ} {v : Verdict} → kind ≡ kind_of (solve_of h) → v ≡ solve_of h →
    m ≡ sets book entry (kind ∷ bytes 2 offset) → r ≡ sets m offset (coefficients h ++ added v) → r ≡ with_conic book entry offset h
unfolding with_conic
conic_stored book m r entry offset h kind_is verdict entered bodied =
    bodied
    ∙ ap₂ (λ (l : List ℕ) (w : Verdict). sets l offset (coefficients h ++ added w))
    (entered ∙ ap (λ (k : ℕ). sets book entry (k ∷ bytes 2 offset)) kind_is) verdict

abbrev pub laid : List ℕ → ℕ → ℕ → List Conic → List ℕ
laid book entry offset hs = sets (sets book entry (entries offset hs)) offset (bodies hs)

pub laid_more :
    (book : List ℕ) (entry offset : ℕ) (h : Conic) (hs : List Conic) → entry + 3 * length (h ∷ hs) ≤ offset →
    laid (with_conic book entry offset h) (entry + 3) (offset + body_length (kind_of (solve_of h))) hs ≡ laid book entry offset (h ∷ hs)
unfolding with_conic entries bodies bytes
laid_more book entry offset h hs room =
    let own : List ℕ = kind_of (solve_of h) ∷ bytes 2 offset in
    let body : List ℕ = coefficients h ++ added (solve_of h) in
    let next : ℕ = offset + body_length (kind_of (solve_of h)) in
    let others : List ℕ = entries next hs in
    ap (λ (l : List ℕ). sets l next (bodies hs))
    (sets_comm (sets book entry own) (entry + 3) others offset body (omega (arith, length_entries next hs)))
    ∙ sym
    (ap (λ (l : List ℕ). sets l offset (body ++ bodies hs)) (sets_append book entry own others)
    ∙ sets_append (sets (sets book entry own) (entry + 3) others) offset body (bodies hs)
    ∙ ap (λ (n : ℕ). sets (sets (sets (sets book entry own) (entry + 3) others) offset body) (offset + n) (bodies hs)) (length_body h (solve_of h)))

pub laid_book :
    (book : List ℕ) (hs : List Conic) → length (book_of hs) ≤ length book →
    laid (sets book 0 (bytes 2 (length hs))) 2 (2 + 3 * length hs) hs ≡ book_of hs ++ drop (length (book_of hs)) book
unfolding book_of bytes
laid_book book hs room =
    let count : List ℕ = bytes 2 (length hs) in
    let contents : List ℕ = entries (2 + 3 * length hs) hs in
    sym
    (sets_append book 0 (count ++ contents) (bodies hs)
    ∙ ap₂ (λ (l : List ℕ) (n : ℕ). sets l n (bodies hs)) (sets_append book 0 count contents) (omega (arith, length_entries (2 + 3 * length hs) hs)))
    ∙ sets_front book (book_of hs) room
