-- The row cutter, byte by byte: a byte is kept, a line feed has the kept row answered. It stops before a row for which
-- fewer than 40 bytes of room are left. It keeps no more than 48 bytes, and every cutter has a meaning, also one that
-- counts more than it holds: its row is then all that it holds. Assumes nothing.
use Rattle.std.specs.Prelude.{cond, List, [], ◌∷◌, ◌++◌, ◌≡◌, ℕ, ◌+◌, ◌-◌, eqb, ltb, length, take, drop, set, replicate}
use Rattle.row.specs.Row.{row_of, buffer_limit, too_short, written, row_length, no_row, Written}
use Rattle.row.specs.Writing.{line_feed}
use Rattle.rows.specs.Input.{answers, last_row}
use Rattle.rows.specs.declared.Cutter.{Cutter}
use Rattle.rows.specs.declared.Fed.{Fed}

abbrev pub holding : ℕ
holding = 48

abbrev pub new_cutter : Cutter
new_cutter = record { held = replicate holding 0; length = 0 }

-- a row that is longer than what is held is held as it began
unfoldable pub keep : Cutter → ℕ → Cutter
keep c b =
    cond (ltb c.length holding) (record { held = set c.held c.length b; length = c.length + 1 }) c

abbrev pub emptied : Cutter → Cutter
emptied c = record { held = c.held; length = 0 }

-- the row so far
unfoldable pub held_text : Cutter → List ℕ
held_text c = take c.length c.held

-- what feeding a piece comes to
pub record Feeding : Type 0 where
  pub cutter : Cutter
  pub taken : ℕ
  pub output : List ℕ

unfoldable pub stopped : Cutter → Feeding
stopped c = record { cutter = c; taken = 0; output = [] }

-- one byte more was taken, and this came out before the rest
unfoldable pub after : List ℕ → Feeding → Feeding
after row f = record { cutter = f.cutter; taken = f.taken + 1; output = row ++ f.output }

-- a piece, with so many bytes of room for the output
unfoldable pub feed_of : Cutter → List ℕ → ℕ → Feeding
feed_of c [] room = stopped c
feed_of c (b ∷ piece) room =
    cond (eqb b line_feed)
    (cond (ltb room buffer_limit)
    (stopped c)
    (after (row_of (held_text c)) (feed_of (emptied c) piece (room - length (row_of (held_text c))))))
    (after [] (feed_of (keep c b) piece room))

-- the last row, if not empty
unfoldable pub finish_of : Cutter → List ℕ
finish_of c = answers (last_row (held_text c))

-- the promise of feeding a piece: the cutter after it, how much was taken and how much written, and the buffer as it is left
pub record FeedPromise (c : Cutter) (piece before : List ℕ) (r : Fed) (left : List ℕ) : Type 0 where
  pub cutter : r.cutter ≡ (feed_of c piece (length before)).cutter
  pub taken : r.taken ≡ (feed_of c piece (length before)).taken
  pub written : r.written ≡ length (feed_of c piece (length before)).output
  pub buffer :
      left ≡ (feed_of c piece (length before)).output ++ drop (length (feed_of c piece (length before)).output) before

-- the promise of the last row, as that of a text row: refusal 11 before anything else, and nothing written for an empty row
pub record FinishPromise (c : Cutter) (before : List ℕ) (r : Written) (left : List ℕ) : Type 0 where
  pub answer : written r ≡ cond (too_short before) (no_row 11) (row_length (length (finish_of c)))
  pub buffer : left ≡ cond (too_short before) before (finish_of c ++ drop (length (finish_of c)) before)
