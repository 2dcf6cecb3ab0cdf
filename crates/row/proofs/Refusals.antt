-- A buffer is refused exactly for its cause, whatever is to be written; and a row's text tells the refusal in it,
-- which is that of reading, or that of solve on what was read. Assumes nothing.
use mathlib.Core.Bool.{true, false, cond}
use mathlib.Core.List.{List}
use mathlib.Core.Logic.{◌↔◌}
use Rattle.std.specs.Prelude.{Option, Some, None}
use mathlib.Core.Path.{◌≡◌, refl, sym, ap, ◌∙◌, subst}
use Prim.Native.Nat.{ℕ}
use lib.IntN.{pos, nat_abs}
use lib.ListN.{length}
use borrow.Author.Tests.{le-leb, ltb-true, lt-ltb}
use Rattle.number.proofs.Least.{T-of-true, false_of_not_true, not_true_of_false}
use Rattle.point.specs.Paper.{refusal, coefficient_limit, within, is_zero}
use Rattle.point.proofs.Cases.{by_test, when, unless}
use Rattle.point.proofs.Tests.{is_zero_iff}
use Rattle.conic.specs.Base.{in_range}
use Rattle.conic.specs.Form.{Δ}
use Rattle.conic.specs.Sizes.{InLimit}
use Rattle.conic.specs.declared.conic.Conic.{Conic}
use Rattle.conic.proofs.Sizes.{in_limit}
use Rattle.solve.specs.Solve.{solve_of}
use Rattle.solve.proofs.Answers.{is_refusal, refused}
use Rattle.row_reader.specs.Grammar.{SixNumbers, ReadGivesExactly, ReadRefusesExactly}
use Rattle.row_reader.specs.Reading.{read_row}
use Rattle.row_reader.proofs.Grammar.{read_gives_exactly, read_refuses_exactly}
use Rattle.row.specs.Refusals.{BufferCause, short_buffer, RowRefusesExactly, ContentCause, not_read, out_of_range, degenerate, RowSaysRefusalExactly}
use Rattle.row.specs.Row.{verdict_on, row_of, too_short, buffer_limit, RowAnswer, row_length, no_row}
use Rattle.row.specs.Theorems.{RowTellsAnswer}
use Rattle.row.specs.Writing.{row_text}
use Rattle.row.proofs.RowTells.{row_tells_answer}

-- ---- 11

-- the answer where these bytes are written into a buffer that is long enough
pub buffer_refused :
    {a : RowAnswer} (buffer bytes : List ℕ) (n : ℕ) →
    a ≡ cond (too_short buffer) (no_row 11) (row_length (length bytes)) → a ≡ no_row n ↔ BufferCause buffer n
unfolding too_short
buffer_refused {a} buffer bytes n is = (cause, λ c. is ∙ refusal_of c)
  where
    cause : a ≡ no_row n → BufferCause buffer n
    cause e =
        by_test (too_short buffer)
        (λ t.
        let eleven = when (no_row 11) (row_length (length bytes)) t ∙ sym is ∙ e in
        subst (BufferCause buffer) (cc) (short_buffer (ltb-true (length buffer) buffer_limit t)))
        (λ f. let other = unless (no_row 11) (row_length (length bytes)) f ∙ sym is ∙ e in cc)

    refusal_of :
        {m : ℕ} → BufferCause buffer m →
        cond (too_short buffer) (no_row 11) (row_length (length bytes)) ≡ no_row m
    refusal_of (short_buffer h) = sym (when _ _ (lt-ltb (length buffer) buffer_limit h))

pub row_refuses_exactly : RowRefusesExactly
unfolding RowRefusesExactly
row_refuses_exactly text before r after n p = buffer_refused before (row_of text) n p.answer

-- ---- 1 and 2

ranged : (h : Conic) → InLimit h → in_range h ≡ true
unfolding in_range within
ranged h l =
    simp (
      le-leb (nat_abs h.a) coefficient_limit l.a_within,
      le-leb (nat_abs h.b) coefficient_limit l.b_within,
      le-leb (nat_abs h.c) coefficient_limit l.c_within,
      le-leb (nat_abs h.d) coefficient_limit l.d_within,
      le-leb (nat_abs h.e) coefficient_limit l.e_within,
      le-leb (nat_abs h.f) coefficient_limit l.f_within,
    )

one : (h : Conic) → in_range h ≡ false → refusal 1 ≡ solve_of h
unfolding solve_of
one h out = unless _ _ out

two : (h : Conic) → in_range h ≡ true → is_zero (Δ h) ≡ true → refusal 2 ≡ solve_of h
unfolding solve_of
two h range flat = when _ _ flat ∙ when _ _ range

solve_cause : (text : List ℕ) (h : Conic) (n : ℕ) → SixNumbers text h → solve_of h ≡ refusal n → ContentCause text n
solve_cause text h n six e =
    by_test (in_range h)
    (λ range.
    let flat : Δ h ≡ pos 0 = refused h range (ap is_refusal e) in
    let two_is = two h range (is_zero_iff.1 flat) ∙ e in
    subst (ContentCause text) (cc) (degenerate h six (in_limit h (T-of-true range)) flat))
    (λ out.
    let one_is = one h out ∙ e in
    subst (ContentCause text) (cc) (out_of_range h six λ l. not_true_of_false out (ranged h l)))

-- ---- "R n"

pub row_says_refusal_exactly : RowSaysRefusalExactly
unfolding RowSaysRefusalExactly RowTellsAnswer ReadGivesExactly ReadRefusesExactly row_of verdict_on
row_says_refusal_exactly text n = (λ e. cause (read_row text) refl (row_tells_answer _ _ e), said)
  where
    cause : (o : Option Conic) → read_row text ≡ o → verdict_on o ≡ refusal n → ContentCause text n
    cause (Some h) e f = solve_cause text h n ((read_gives_exactly text h).0 e) f
    cause None e f = subst (ContentCause text) (cc) (not_read ((read_refuses_exactly text).0 e))

    solved : {m : ℕ} (h : Conic) → SixNumbers text h → refusal m ≡ solve_of h → row_of text ≡ row_text (refusal m)
    solved h six e = rw ((read_gives_exactly text h).1 six, sym e)

    said : {m : ℕ} → ContentCause text m → row_of text ≡ row_text (refusal m)
    said (not_read not) = rw ((read_refuses_exactly text).1 not)
    said (out_of_range h six out) = solved h six (one h (false_of_not_true λ e. out (in_limit h (T-of-true e))))
    said (degenerate h six l flat) = solved h six (two h (ranged h l) (is_zero_iff.1 flat))
