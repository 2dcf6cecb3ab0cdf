-- The layout of a book: two bytes for the count n; n entries of three bytes, kind and offset; then the bodies in order, no gaps.
-- A body starts with the six coefficients as signed bytes. Assumes nothing.
use Rattle.std.specs.Prelude.{List, [], ◌∷◌, ◌++◌, ℕ, ◌+◌, ◌*◌, get_or}
use Rattle.point.specs.Paper.{Verdict, point, none_by_sign, none_by_prime, refusal}
use Rattle.point.specs.declared.Point.{Point}
use Rattle.conic.specs.declared.conic.Conic.{Conic}
use Rattle.book.specs.Bytes.{bytes, number_at, unsigned, signed}

abbrev pub count_limit : ℕ
count_limit = 2_000

-- bodies of kinds 1 to 4 are 18, 6, 10 and 6 bytes long
abbrev pub body_length : ℕ → ℕ
body_length kind = get_or (0 ∷ 18 ∷ 6 ∷ 10 ∷ 6 ∷ []) kind 0

-- 1 for a point, 2 for none by sign, 3 for none by a prime, 4 where Δ = 0
abbrev pub kind_of : Verdict → ℕ
kind_of (point p) = 1
kind_of none_by_sign = 2
kind_of (none_by_prime l) = 3
kind_of (refusal n) = 4

unfoldable pub coefficients : Conic → List ℕ
coefficients h =
    unsigned 1 h.a ∷ unsigned 1 h.b ∷ unsigned 1 h.c ∷ unsigned 1 h.d ∷ unsigned 1 h.e ∷
    unsigned 1 h.f ∷ []

-- what a kind adds to the coefficients
abbrev pub added : Verdict → List ℕ
added (point p) = bytes 4 (unsigned 4 p.x) ++ bytes 4 (unsigned 4 p.y) ++ bytes 4 (unsigned 4 p.z)
added none_by_sign = []
added (none_by_prime l) = bytes 4 l
added (refusal n) = []

unfoldable pub conic_at : List ℕ → ℕ → Conic
conic_at book at =
    record {
      a = signed 1 (get_or book at 0);
      b = signed 1 (get_or book (at + 1) 0);
      c = signed 1 (get_or book (at + 2) 0);
      d = signed 1 (get_or book (at + 3) 0);
      e = signed 1 (get_or book (at + 4) 0);
      f = signed 1 (get_or book (at + 5) 0);
    }

unfoldable pub point_at : List ℕ → ℕ → Point
point_at book at =
    record {
      x = signed 4 (number_at 4 book at);
      y = signed 4 (number_at 4 book (at + 4));
      z = signed 4 (number_at 4 book (at + 8));
    }

-- the contents, read from a book
abbrev pub count_of : List ℕ → ℕ
count_of book = number_at 2 book 0

abbrev pub kind_at : List ℕ → ℕ → ℕ
kind_at book i = get_or book (2 + 3 * i) 0

abbrev pub offset_at : List ℕ → ℕ → ℕ
offset_at book i = number_at 2 book (3 + 3 * i)
