-- What the writer's and the reader's steps ask and leave. Assumes nothing.
use Rattle.std.specs.Prelude.{List, map, ◌∷◌, ◌++◌, ◌≡◌, ℕ, ◌+◌, ◌*◌, ◌%◌, ◌≤◌, ◌<◌, length, drop}
use Rattle.std.proofs.lemmas.List.Edits.{sets}
use Rattle.point.specs.Paper.{Verdict, point, point_limit}
use Rattle.point.specs.Sizes.{PointWithin}
use Rattle.point.specs.declared.Point.{Point}
use Rattle.conic.specs.declared.conic.Conic.{Conic}
use Rattle.solve.specs.Solve.{solve_of}
use Rattle.book.specs.Bytes.{bytes}
use Rattle.book.specs.Kinds.{kind_number}
use Rattle.book.specs.Layout.{count_limit, body_length, kind_of, coefficients, added, count_of, kind_at, offset_at, conic_at}
use Rattle.book.specs.Reader.{bodies_end}
use Rattle.book.specs.Writer.{book_of}
use Rattle.book.specs.declared.kind.Kind.{Kind}

-- the conics of runs of six bytes
abbrev pub conics_in : List (List ℕ) → List Conic
conics_in = map (λ six. conic_at six 0)

-- what a verdict adds fits from a place on
pub record AddedFits (book : List ℕ) (at : ℕ) (v : Verdict) : Type 0 where
  pub room : at + length (added v) ≤ length book
  pub point_fits : (p : Point) → v ≡ point p → PointWithin point_limit p

-- a conic's entry and body fit
pub record ConicFits (book : List ℕ) (entry offset : ℕ) (h : Conic) : Type 0 where
  pub entry_room : entry + 3 ≤ length book
  pub body_room : offset + body_length (kind_of (solve_of h)) ≤ length book

-- a conic's entry and body, written
unfoldable pub with_conic : List ℕ → ℕ → ℕ → Conic → List ℕ
with_conic book entry offset h =
    sets (sets book entry (kind_of (solve_of h) ∷ bytes 2 offset)) offset (coefficients h ++ added (solve_of h))

pub record ConicPut (before : List ℕ) (entry offset : ℕ) (h : Conic) (r : ℕ) (after : List ℕ) : Type 0 where
  pub book : after ≡ with_conic before entry offset h
  pub next : r ≡ offset + body_length (kind_of (solve_of h))

-- the book of a list, written, and its length
pub record BookPut (before : List ℕ) (hs : List Conic) (r : ℕ) (after : List ℕ) : Type 0 where
  pub book : after ≡ book_of hs ++ drop (length (book_of hs)) before
  pub length_is : r ≡ length (book_of hs)

-- six bytes a conic, at most 2,000 conics
pub record RightList (list : List ℕ) : Type 0 where
  pub sixes : length list % 6 ≡ 0
  pub at_most : length list ≤ 6 * count_limit

-- what an entry has: a kind, and the offset at which the bodies before it end
pub record EntryRight (book : List ℕ) (i : ℕ) : Type 0 where
  pub kind_at_least : 1 ≤ kind_at book i
  pub kind_at_most : kind_at book i ≤ 4
  pub offset : offset_at book i ≡ bodies_end book i

abbrev pub EntriesRight : List ℕ → Type 0
EntriesRight book = (i : ℕ) → i < count_of book → EntryRight book i

-- a book of at most 2,000 entries that has its contents
pub record Contents (book : List ℕ) (count : ℕ) : Type 0 where
  pub count_is : count ≡ count_of book
  pub count_at_most : count ≤ count_limit
  pub room : 2 + 3 * count ≤ length book

-- what a layout has: the contents, each entry, and the last body ends with the book
pub record LayoutRight (book : List ℕ) : Type 0 where
  pub has_count : 2 ≤ length book
  pub has_contents : 2 + 3 * count_of book ≤ length book
  pub count_at_most : count_of book ≤ count_limit
  pub entries : EntriesRight book
  pub ends : bodies_end book (count_of book) ≡ length book

-- the kind of a conic's body and where it is; the body lies in the book
pub record BodyAt (book : List ℕ) (i : ℕ) (kind : Kind) (at : ℕ) : Type 0 where
  pub kind_is : kind_number kind ≡ kind_at book i
  pub starts : at ≡ bodies_end book i
  pub room : at + body_length (kind_number kind) ≤ length book
