-- How long a book and its parts are: three bytes an entry, and each body as the table says. By induction on the conics. Assumes nothing.
use mathlib.Core.List.{List, [], ◌∷◌, ◌++◌}
use mathlib.Core.Path.{◌≡◌, refl, ap, ◌∙◌}
use Prim.Native.Nat.{ℕ, ◌+◌, ◌*◌, ◌≤◌}
use native.Mathlib.Omega.{arith}
use lib.ListN.{length, length-append, drop}
use Rattle.std.proofs.lemmas.List.{drop_all}
use Rattle.point.specs.Paper.{Verdict, point, none_by_sign, none_by_prime, refusal}
use Rattle.conic.specs.declared.conic.Conic.{Conic}
use Rattle.solve.specs.Solve.{solve_of}
use Rattle.book.specs.Bytes.{bytes}
use Rattle.book.specs.Layout.{body_length, kind_of, coefficients, added}
use Rattle.book.specs.Writer.{entries, bodies, book_of}
use Rattle.book.proofs.BodyKinds.{length_at_most}

pub length_body : (h : Conic) (v : Verdict) → length (coefficients h ++ added v) ≡ body_length (kind_of v)
unfolding coefficients bytes
length_body h (point p) = refl
length_body h none_by_sign = refl
length_body h (none_by_prime l) = refl
length_body h (refusal n) = refl

-- what a verdict adds comes after the six coefficients
pub length_added : (v : Verdict) → 6 + length (added v) ≡ body_length (kind_of v)
unfolding bytes
length_added (point p) = refl
length_added none_by_sign = refl
length_added (none_by_prime l) = refl
length_added (refusal n) = refl

pub length_bodies :
    (h : Conic) (hs : List Conic) → length (bodies (h ∷ hs)) ≡ body_length (kind_of (solve_of h)) + length (bodies hs)
unfolding bodies
length_bodies h hs =
    length-append (coefficients h ++ added (solve_of h)) (bodies hs)
    ∙ ap (λ (n : ℕ). n + length (bodies hs)) (length_body h (solve_of h))

pub length_entries : (offset : ℕ) (hs : List Conic) → length (entries offset hs) ≡ 3 * length hs
unfolding entries bytes
length_entries offset [] = refl
length_entries offset (h ∷ hs) = omega (arith, length_entries (offset + body_length (kind_of (solve_of h))) hs)

pub length_book : (hs : List Conic) → length (book_of hs) ≡ 2 + 3 * length hs + length (bodies hs)
unfolding book_of bytes
length_book hs =
    omega (arith, length-append (entries (2 + 3 * length hs) hs) (bodies hs), length_entries (2 + 3 * length hs) hs)

bodies_at_most : (hs : List Conic) → length (bodies hs) ≤ 18 * length hs
unfolding bodies
bodies_at_most [] = omega arith
bodies_at_most (h ∷ hs) = omega (arith, length_bodies h hs, length_at_most (kind_of (solve_of h)), bodies_at_most hs)

pub book_at_most : (hs : List Conic) → length (book_of hs) ≤ 2 + 21 * length hs
book_at_most hs = omega (arith, length_book hs, bodies_at_most hs)

-- the bodies of the conics that are left, where a conic is the first of them
pub length_left :
    {hs rest : List Conic} {h : Conic} → hs ≡ h ∷ rest →
    length (bodies hs) ≡ body_length (kind_of (solve_of h)) + length (bodies rest)
length_left {rest = rest} {h} first = ap (λ (gs : List Conic). length (bodies gs)) first ∙ length_bodies h rest

pub length_none : (hs : List Conic) {i : ℕ} → length hs ≤ i → length (bodies (drop i hs)) ≡ 0
unfolding bodies
length_none hs {i} end = ap (λ (gs : List Conic). length (bodies gs)) (drop_all i hs end)
