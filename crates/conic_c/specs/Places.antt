-- The lent places as they are left: an answer's numbers where it has some for the place, and everywhere else what stood there before.
-- A none has no coordinates, so it leaves the place of a point. Assumes nothing.
use Rattle.std.specs.Prelude.{List, [], ◌∷◌, ◌≡◌, ℕ, ℤ}
use Rattle.point.specs.Paper.{Verdict, point, none_by_sign, none_by_prime, refusal}
use Rattle.point.specs.declared.Point.{Point}
use Rattle.point.specs.declared.Direction.{Direction}
use Rattle.conic.specs.declared.conic.Conic.{Conic}
use Rattle.direction.specs.Direction.{Bearing, direction, no_direction}
use Rattle.book.specs.Reader.{ReaderAnswer, with_point, with_none_by_sign, with_none_by_prime, degenerate, no_entry}
use Rattle.conic_c.specs.Codes.{code, to_solve, to_book_read}

abbrev pub coordinates : Point → List ℤ
coordinates p = p.x ∷ p.y ∷ p.z ∷ []

abbrev pub components : Direction → List ℤ
components t = t.u ∷ t.v ∷ []

abbrev pub coefficients : Conic → List ℤ
coefficients h = h.a ∷ h.b ∷ h.c ∷ h.d ∷ h.e ∷ h.f ∷ []

abbrev pub point_left : Verdict → List ℤ → List ℤ
point_left (point p) before = coordinates p
point_left none_by_sign before = before
point_left (none_by_prime l) before = before
point_left (refusal n) before = before

abbrev pub prime_left : Verdict → ℕ → ℕ
prime_left (point p) before = before
prime_left none_by_sign before = before
prime_left (none_by_prime l) before = l
prime_left (refusal n) before = before

abbrev pub direction_left : Bearing → List ℤ → List ℤ
direction_left (direction t) before = components t
direction_left (no_direction n) before = before

abbrev pub conic_left : ReaderAnswer → List ℤ → List ℤ
conic_left (with_point h p) before = coefficients h
conic_left (with_none_by_sign h) before = coefficients h
conic_left (with_none_by_prime h l) before = coefficients h
conic_left (degenerate h) before = coefficients h
conic_left (no_entry n) before = before

-- what an entry of a book says of its conic, with the paper's number of degenerate
abbrev pub stored_verdict : ReaderAnswer → Verdict
stored_verdict (with_point h p) = point p
stored_verdict (with_none_by_sign h) = none_by_sign
stored_verdict (with_none_by_prime h l) = none_by_prime l
stored_verdict (degenerate h) = refusal 2
stored_verdict (no_entry n) = refusal n

-- an answer of solve: its code, and the places of a point and a prime
pub record HandedVerdict (v : Verdict) (point : List ℤ) (prime : ℕ) (r : ℤ) (point' : List ℤ) (prime' : ℕ) : Type 0 where
  pub code_is : r ≡ code (to_solve v)
  pub point_is : point' ≡ point_left v point
  pub prime_is : prime' ≡ prime_left v prime

-- an answer of the reader: its code, and the places of a conic, a point and a prime
pub record HandedEntry (e : ReaderAnswer) (conic point : List ℤ) (prime : ℕ) (r : ℤ) (conic' point' : List ℤ) (prime' : ℕ) :
    Type 0 where
  pub code_is : r ≡ code (to_book_read e)
  pub conic_is : conic' ≡ conic_left e conic
  pub point_is : point' ≡ point_left (stored_verdict e) point
  pub prime_is : prime' ≡ prime_left (stored_verdict e) prime
