-- The book of a list determines the list: the count is read back, and the reader gives back each conic. Assumes nothing.
use mathlib.Core.Path.{◌≡◌, refl, sym, ap, ◌∙◌}
use native.Mathlib.Omega.{arith}
use lib.ListN.{length, get_or}
use lib.Seq.{ext_get_or}
use Rattle.point.specs.Paper.{Verdict, point, none_by_sign, none_by_prime, refusal}
use Rattle.conic.specs.declared.conic.Conic.{Conic}
use Rattle.solve.specs.Solve.{solve_of}
use Rattle.book.specs.Layout.{count_of}
use Rattle.book.specs.Reader.{ReaderAnswer, with_point, with_none_by_sign, with_none_by_prime, degenerate, no_entry, reader_answer}
use Rattle.book.specs.Theorems.{with_verdict, WrittenIsRead, BookDeterminesList}
use Rattle.book.proofs.ContentsBack.{count_back}
use Rattle.book.proofs.WrittenIsRead.{blank, written_is_read}

-- any conic, where there is none
abbrev conic_of : ReaderAnswer → Conic
conic_of (with_point h p) = h
conic_of (with_none_by_sign h) = h
conic_of (with_none_by_prime h l) = h
conic_of (degenerate h) = h
conic_of (no_entry n) = blank

own_conic : (h : Conic) (v : Verdict) → conic_of (with_verdict h v) ≡ h
unfolding with_verdict
own_conic h (point p) = refl
own_conic h none_by_sign = refl
own_conic h (none_by_prime l) = refl
own_conic h (refusal n) = refl

pub book_determines_list : BookDeterminesList
unfolding BookDeterminesList WrittenIsRead
book_determines_list hs hs' range range' limit limit' e =
    ext_get_or blank hs hs' same_length
    (λ i below.
    sym (own_conic (get_or hs i blank) (solve_of (get_or hs i blank)))
    ∙ ap conic_of (sym ((written_is_read hs range limit).0 i blank below))
    ∙ ap (λ book. conic_of (reader_answer book i)) e
    ∙ ap conic_of ((written_is_read hs' range' limit').0 i blank (omega (arith, same_length)))
    ∙ own_conic (get_or hs' i blank) (solve_of (get_or hs' i blank)))
  where
    same_length : length hs ≡ length hs'
    same_length = sym (count_back hs limit) ∙ ap count_of e ∙ count_back hs' limit'
