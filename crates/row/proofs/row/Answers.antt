-- `row::row` meets its contract: a buffer below 40 bytes stays; in any other every row has room, and stands before what
-- was there. Assumes nothing.
use Rattle.std.proofs.Common.{Ok, rules, arith, ◌+◌, ◌≡◌, ℕ, ◌≤◌, List, ◌++◌, length, drop, ap, ◌∙◌, lt-ltb, le-ltb}
use native.Mathlib.Nat.{zero-add, le_trans}
use lib.Seq.{sets}
use Rattle.point.proofs.Stores.{sets_front}
use Rattle.point.specs.Paper.{Verdict}
use Rattle.row_reader.specs.Reading.{read_row}
use Rattle.row.specs.Writing.{row_text}
use Rattle.row.specs.Row.{verdict_on, RowPromise, row_of, too_short, row_length, buffer_limit}
use Rattle.row.specs.Buffer.{HasRoom, Wrote}
use Rattle.row.specs.declared.text.RowText.{RowText}
use Rattle.row.specs.Theorems.{RowsFit}
use Rattle.row.proofs.Sizes.{rows_fit}
use Rattle.row.proofs.row.Goals as goal

has_room : (text : List ℕ) (n : ℕ) → buffer_limit ≤ n → length (row_of text) ≤ n
unfolding RowsFit
has_room text n h = le_trans (rows_fit text) h

pub returns-then-out-lt-BUFFER_LIMIT : goal.returns-then-out-lt-BUFFER_LIMIT
unfolding too_short
returns-then-out-lt-BUFFER_LIMIT c = record {
  answer = simp (lt-ltb _ _ c.if-out-lt-BUFFER_LIMIT.true);
  buffer = simp (lt-ltb _ _ c.if-out-lt-BUFFER_LIMIT.true);
}

-- a row that was begun at the buffer's start, in the buffer as it came
kept_promise :
    {text before after : List ℕ} {v : Verdict} {n : ℕ} {begun made : RowText} → buffer_limit ≤ length before →
    v ≡ verdict_on (read_row text) → begun.out.now ≡ before → begun.length ≡ 0 → Wrote (row_text v) begun made →
    n ≡ made.length → after ≡ made.out.now → RowPromise text before (Ok n) after
unfolding too_short row_of
kept_promise {text} {before} {after} {v} {n} {begun} {made} long verdict now empty w n_is after_is =
    let is : row_text v ≡ row_of text = ap row_text verdict in
    let answer : row_length n ≡ row_length (length (row_of text)) =
    ap row_length (n_is ∙ w.place ∙ ap (λ (k : ℕ). k + length (row_text v)) empty ∙ zero-add _ ∙ ap length is)
    in
    let buffer : after ≡ row_of text ++ drop (length (row_of text)) before =
    after_is ∙ w.buffer ∙ ap (λ (l : List ℕ). sets l begun.length (row_text v)) now
    ∙ ap (λ (k : ℕ). sets before k (row_text v)) empty ∙ ap (sets before 0) is
    ∙ sets_front before (row_of text) (has_room text (length before) long)
    in
    let tested = le-ltb _ _ long in
    record { answer = simp tested answer; buffer = simp tested buffer }

has_row_room :
    (text : List ℕ) {before : List ℕ} {v : Verdict} (begun : RowText) → buffer_limit ≤ length before →
    v ≡ verdict_on (read_row text) → begun.out.now ≡ before → begun.length ≡ 0 → HasRoom (row_text v) begun
unfolding row_of
has_row_room text {before} {v} begun long verdict now empty =
    let is = ap (λ (w : Verdict). length (row_text w)) verdict in
    omega (arith, has_room text (length before) long, ap length now, empty, is)

pub written-requires : goal.written-requires
written-requires c =
    let new = c.new-row in
    has_row_room c.args.text.now new.result c.if-out-lt-BUFFER_LIMIT.false c.verdict.ensures new.ensures.buffer
    new.ensures.empty

pub returns : goal.returns
returns c =
    kept_promise c.if-out-lt-BUFFER_LIMIT.false c.verdict.ensures c.new-row.ensures.buffer c.new-row.ensures.empty
    c.written.ensures c.length.ensures (search rules)
