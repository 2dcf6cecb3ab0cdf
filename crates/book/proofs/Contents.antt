-- What the test of a layout says: the contents are there, each entry holds, and the last body ends with the book; so each body lies in
-- the book. Assumes nothing.
use mathlib.Core.Bool.{true, false, ◌&&◌, and-eq-true_iff}
use mathlib.Core.List.{List}
use mathlib.Core.Logic.{◌↔◌, ⊎_elim}
use mathlib.Core.Path.{◌≡◌, sym, ap, ap₂, ◌∙◌}
use Prim.Native.Nat.{ℕ, zero, suc, ◌+◌, ◌*◌, ◌≤◌, ◌<◌}
use native.Mathlib.Nat.{eq-or-lt_of_le, le_refl, le_of_eq, le_trans, le-add_right}
use native.Mathlib.Numerals.{add-one}
use native.Mathlib.Omega.{arith}
use lib.Dec.{eqb}
use lib.ListN.{length}
use borrow.Author.Tests.{leb-true, le-leb, eqb-true, eqb-false, eq-eqb}
use Rattle.std.specs.Prelude.{Option, Some, None, IfSome, IfNone}
use Rattle.std.specs.Option.{option_eq}
use Rattle.number.proofs.Least.{false_of_not_true}
use Rattle.point.proofs.Cases.{by_test}
use Rattle.book.specs.Kinds.{kind_number}
use Rattle.book.specs.Layout.{count_limit, body_length, count_of, kind_at, offset_at}
use Rattle.book.specs.Reader.{bodies_end, entry_holds, layout_holds}
use Rattle.book.specs.Steps.{EntryRight, EntriesRight, LayoutRight, BodyAt, Contents}
use Rattle.book.specs.declared.kind.Kind.{Kind}
use Rattle.book.proofs.BodyKinds.{length_at_most}
use Rattle.book.proofs.Every.{every_gives, every_holds}

pub entry_right : (book : List ℕ) (i : ℕ) → entry_holds book i ≡ true ↔ EntryRight book i
unfolding entry_holds
entry_right book i = (
  λ e.
      let (kinds, offset) = (and-eq-true_iff _ _).0 e in
      let (least, most) = (and-eq-true_iff _ _).0 kinds in
      record {
        kind_at_least = leb-true 1 (kind_at book i) least;
        kind_at_most = leb-true (kind_at book i) 4 most;
        offset = eqb-true (offset_at book i) (bodies_end book i) offset;
      },
  λ r.
      ap₂ ◌&&◌ (ap₂ ◌&&◌ (le-leb 1 (kind_at book i) r.kind_at_least) (le-leb (kind_at book i) 4 r.kind_at_most))
      (eq-eqb (offset_at book i) (bodies_end book i) r.offset),
)

pub layout_right : (book : List ℕ) → layout_holds book ≡ true ↔ LayoutRight book
unfolding layout_holds
layout_right book =
    let n = count_of book in (
      λ e.
          let (to_entries, ends) = (and-eq-true_iff _ _).0 e in
          let (to_limit, entries) = (and-eq-true_iff _ _).0 to_entries in
          let (to_contents, limit) = (and-eq-true_iff _ _).0 to_limit in
          let (count, contents) = (and-eq-true_iff _ _).0 to_contents in
          record {
            has_count = leb-true 2 (length book) count;
            has_contents = leb-true (2 + 3 * n) (length book) contents;
            count_at_most = leb-true n count_limit limit;
            entries = λ i h. (entry_right book i).0 (every_gives (entry_holds book) n entries i h);
            ends = eqb-true (bodies_end book n) (length book) ends;
          },
      λ r.
          ap₂ ◌&&◌
          (ap₂ ◌&&◌
          (ap₂ ◌&&◌ (ap₂ ◌&&◌ (le-leb 2 (length book) r.has_count) (le-leb (2 + 3 * n) (length book) r.has_contents))
          (le-leb n count_limit r.count_at_most))
          (every_holds (entry_holds book) n (λ i h. (entry_right book i).1 (r.entries i h))))
          (eq-eqb (bodies_end book n) (length book) r.ends),
    )

pub layout_wrong : {book : List ℕ} → ¬ LayoutRight book → layout_holds book ≡ false
layout_wrong {book} wrong = false_of_not_true λ e. wrong ((layout_right book).0 e)

pub end_more : (book : List ℕ) (i : ℕ) → bodies_end book (i + 1) ≡ bodies_end book i + body_length (kind_at book i)
unfolding bodies_end
end_more book i = rw add-one

pub end_at_most : (book : List ℕ) (i : ℕ) → bodies_end book i ≤ 2 + 3 * count_of book + 18 * i
unfolding bodies_end
end_at_most book zero = omega arith
end_at_most book (suc i) = omega (arith, end_at_most book i, length_at_most (kind_at book i))

pub end_grows : (book : List ℕ) (i n : ℕ) → i ≤ n → bodies_end book i ≤ bodies_end book n
unfolding bodies_end
end_grows book i zero h = let same : i ≡ 0 = omega arith in rw same (le_refl (bodies_end book 0))
end_grows book i (suc n) h =
    ⊎_elim
    (λ same. le_of_eq (ap (bodies_end book) same))
    (λ (below : i < suc n). le_trans (end_grows book i n (omega arith)) (le-add_right (bodies_end book n) (body_length (kind_at book n))))
    (eq-or-lt_of_le h)

pub body_within : {book : List ℕ} → LayoutRight book → (i : ℕ) → i < count_of book → bodies_end book i + body_length (kind_at book i) ≤ length book
unfolding bodies_end
body_within {book} r i h =
    let grows : bodies_end book (suc i) ≤ bodies_end book (count_of book) = end_grows book (suc i) (count_of book) h in
    omega (arith, r.ends)

-- a layout is right where the end of its last body, if its entries are right, is the book's
pub layout_tested :
    {book : List ℕ} {count : ℕ} (last : Option ℕ) → 2 ≤ length book → Contents book count →
    IfSome last (λ end. EntriesRight book × (end ≡ bodies_end book count)) → IfNone last (¬ EntriesRight book) →
    option_eq eqb last (Some (length book)) ≡ layout_holds book
layout_tested None long contents right wrong = sym (layout_wrong λ r. wrong r.entries)
layout_tested {book} (Some end) long contents (entries, last) wrong =
    by_test (eqb end (length book))
    (λ same.
    same ∙ sym ((layout_right book).1 (record {
      has_count = long;
      has_contents = omega (arith, contents);
      count_at_most = omega (arith, contents);
      entries = entries;
      ends = ap (bodies_end book) (sym contents.count_is) ∙ sym last ∙ eqb-true end (length book) same;
    })))
    (λ other.
    other ∙ sym (layout_wrong λ r.
    eqb-false end (length book) other (last ∙ ap (bodies_end book) contents.count_is ∙ r.ends)))

-- the kind and the offset of an entry say where its body is
pub body_at :
    {book : List ℕ} {i at : ℕ} {kind : Kind} → LayoutRight book → i < count_of book → kind_number kind ≡ kind_at book i →
    at ≡ offset_at book i → BodyAt book i kind at
body_at {book} {i} {at} {kind} r h is read =
    let starts : at ≡ bodies_end book i = read ∙ (r.entries i h).offset in
    record { kind_is = is; starts = starts; room = rw (starts, is) (body_within r i h) }
