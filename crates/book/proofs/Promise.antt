-- The promises of the writer and the reader determine their answers, and the writer's the buffer too: an answer can be told from what it
-- stands for in the paper. Assumes nothing.
use mathlib.Core.List.{List}
use mathlib.Core.Path.{◌≡◌, refl, sym, ap, ◌∙◌}
use Prim.Native.Nat.{ℕ, zero, suc}
use native.Mathlib.Omega.{arith}
use Rattle.std.specs.Prelude.{Some, None, Result, Ok, Err}
use Rattle.point.specs.declared.paper.Refusal.{Refusal}
use Rattle.point.proofs.Promise.{told_apart, numbered, numbered_number}
use Rattle.legendre.specs.declared.outcome.Reason.TheVariants as Reason
use Rattle.book.specs.Kinds.{kind_number, Decodes}
use Rattle.book.specs.declared.kind.Kind.{Kind}
use Rattle.book.proofs.BodyKinds.{kind_within}
use Rattle.book.specs.Reader.{ReaderAnswer, with_point, with_none_by_sign, with_none_by_prime, degenerate, no_entry}
use Rattle.book.specs.Reader.{Entry, entry, ReaderPromise}
use Rattle.book.specs.Writer.{WriterAnswer, book_length, no_book, written, WriterPromise}

-- ---- the kind of a byte

abbrev to_kind : ℕ → Kind
to_kind zero = Kind.Point
to_kind (suc zero) = Kind.Point
to_kind (suc (suc zero)) = Kind.Sign
to_kind (suc (suc (suc zero))) = Kind.Prime
to_kind (suc (suc (suc (suc n)))) = Kind.Degenerate

kind_back : (k : Kind) → to_kind (kind_number k) ≡ k
kind_back Kind.Point = refl
kind_back Kind.Sign = refl
kind_back Kind.Prime = refl
kind_back Kind.Degenerate = refl

pub kind_determined : (n : ℕ) {r r' : Result Kind Refusal} → Decodes n r → Decodes n r' → r ≡ r'
kind_determined n {r = Ok k} {r' = Ok k'} a b = ap Ok (told_apart kind_number to_kind kind_back k k' (a ∙ sym b))
kind_determined n {r = Ok k} {r' = Err e} a b = absurd (omega (arith, a, b.1, kind_within k))
kind_determined n {r = Err e} {r' = Ok k} a b = absurd (omega (arith, b, a.1, kind_within k))
kind_determined n {r = Err e} {r' = Err e'} a b = ap Err (a.0 ∙ sym b.0)

-- ---- the writer

abbrev to_written : WriterAnswer → Result ℕ Refusal
to_written (book_length n) = Ok n
to_written (no_book n) = Err (numbered n)

written_back : (r : Result ℕ Refusal) → to_written (written r) ≡ r
written_back (Ok n) = refl
written_back (Err s) = ap Err (numbered_number s)

pub write_determined :
    {list before after after' : List ℕ} {r r' : Result ℕ Refusal} →
    WriterPromise list before r after → WriterPromise list before r' after' →
    (r ≡ r') × (after ≡ after')
write_determined {r = r} {r' = r'} a b =
    (told_apart written to_written written_back r r' (a.answer ∙ sym b.answer), a.buffer ∙ sym b.buffer)

-- ---- the reader

abbrev to_entry : ReaderAnswer → Entry
to_entry (with_point h p) = Ok (h, Some (Ok p))
to_entry (with_none_by_sign h) = Ok (h, Some (Err Reason.Sign))
to_entry (with_none_by_prime h l) = Ok (h, Some (Err (Reason.Prime l)))
to_entry (degenerate h) = Ok (h, None)
to_entry (no_entry n) = Err (numbered n)

entry_back : (r : Entry) → to_entry (entry r) ≡ r
entry_back (Ok (h, Some (Ok p))) = refl
entry_back (Ok (h, Some (Err Reason.Sign))) = refl
entry_back (Ok (h, Some (Err (Reason.Prime l)))) = refl
entry_back (Ok (h, None)) = refl
entry_back (Err s) = ap Err (numbered_number s)

pub read_determined : {book : List ℕ} {i : ℕ} {r r' : Entry} → ReaderPromise book i r → ReaderPromise book i r' → r ≡ r'
read_determined {r = r} {r' = r'} a b = told_apart entry to_entry entry_back r r' (a.answer ∙ sym b.answer)
