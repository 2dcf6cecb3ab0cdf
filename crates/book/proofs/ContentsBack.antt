-- The contents of a list's book are read back: the count, each kind, each offset, and where each body is; the offsets of 2,000 conics
-- fit two bytes. So the layout holds. Assumes nothing.
use mathlib.Core.List.{List, []}
use mathlib.Core.Path.{◌≡◌, sym, ap, ap₂, ◌∙◌}
use Prim.Native.Nat.{ℕ, zero, suc, ◌+◌, ◌*◌, ◌≤◌, ◌<◌}
use native.Mathlib.Nat.{add-zero}
use native.Mathlib.Omega.{arith}
use lib.ListN.{length, get_or}
use Rattle.conic.specs.declared.conic.Conic.{Conic}
use Rattle.solve.specs.Solve.{solve_of}
use Rattle.book.specs.Bytes.{bytes, number_at}
use Rattle.book.specs.Layout.{count_limit, body_length, kind_of, count_of, kind_at, offset_at}
use Rattle.book.specs.Reader.{bodies_end}
use Rattle.book.specs.Steps.{LayoutRight}
use Rattle.book.specs.Writer.{bodies, book_of}
use Rattle.book.proofs.BodyKinds.{kind_at_least, kind_at_most}
use Rattle.book.proofs.Lengths.{length_book, book_at_most}
use Rattle.book.proofs.Parts.{start_of, entry_at, start_more, start_within, start_end}
use Rattle.book.proofs.ReadBack.{byte_from, number_from_lem, two_back}

-- the count is read back
pub count_back : (hs : List Conic) → length hs ≤ count_limit → count_of (book_of hs) ≡ length hs
unfolding book_of bytes number_at
count_back hs limit = two_back (length hs) [] (omega arith)

module _ (hs : List Conic) (limit : length hs ≤ count_limit) (h : Conic) where
  pub kind_back : (i : ℕ) → i < length hs → kind_at (book_of hs) i ≡ kind_of (solve_of (get_or hs i h))
  kind_back i below =
      ap (λ (n : ℕ). get_or (book_of hs) n 0) (sym (add-zero (2 + 3 * i))) ∙ byte_from (book_of hs) (2 + 3 * i) 0
      ∙ ap (λ (l : List ℕ). get_or l 0 0) (entry_at hs i h below).1

  pub offset_back : (i : ℕ) → i < length hs → offset_at (book_of hs) i ≡ start_of hs i
  unfolding bytes number_at
  offset_back i below =
      let place : 3 + 3 * i ≡ 2 + 3 * i + 1 = omega arith in
      ap (number_at 2 (book_of hs)) place ∙ number_from_lem 2 (book_of hs) (2 + 3 * i) 1
      ∙ ap (λ (l : List ℕ). number_at 2 l 1) (entry_at hs i h below).1
      ∙ two_back (start_of hs i) [] (omega (arith, start_within hs i, book_at_most hs))

  pub end_back : (i : ℕ) → i ≤ length hs → bodies_end (book_of hs) i ≡ start_of hs i
  unfolding bodies_end bodies
  end_back zero k = omega (arith, count_back hs limit)
  end_back (suc i) k =
      ap₂ (λ (n kind : ℕ). n + body_length kind) (end_back i (omega arith)) (kind_back i k) ∙ sym (start_more hs i h k)

  pub layout_back : LayoutRight (book_of hs)
  layout_back =
      let count = count_back hs limit in
      record {
        has_count = omega (arith, length_book hs);
        has_contents = omega (arith, length_book hs);
        count_at_most = omega arith;
        entries =
            λ i below.
            let inside : i < length hs = omega arith in
            let v = solve_of (get_or hs i h) in
            record {
              kind_at_least = rw (kind_back i inside) (kind_at_least v);
              kind_at_most = rw (kind_back i inside) (kind_at_most v);
              offset = offset_back i inside ∙ sym (end_back i (omega arith));
            };
        ends = ap (bodies_end (book_of hs)) count ∙ end_back (length hs) (omega arith) ∙ start_end hs;
      }
