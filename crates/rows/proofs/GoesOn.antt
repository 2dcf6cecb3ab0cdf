-- What a caller of `feed` goes by: with room for a row something is taken, never more than the piece has, and what was
-- written, by `finish` too, lies within the buffer. Assumes nothing.
use mathlib.Core.Bool.{Bool, true, false, cond}
use mathlib.Core.List.{List, [], ◌∷◌, ◌++◌}
use mathlib.Core.Path.{◌≡◌, ap, sym, ◌∙◌}
use Prim.Native.Nat.{ℕ, suc, ◌-◌, ◌≤◌, ◌<◌}
use native.Mathlib.Omega.{arith}
use borrow.Author.Tests.{le-ltb}
use lib.Dec.{eqb, ltb}
use lib.ListN.{length, drop, length-append}
use Rattle.std.specs.Prelude.{Ok}
use Rattle.row.specs.Row.{row_of, buffer_limit, too_short, row_length, no_row, written, Written}
use Rattle.row.specs.Writing.{line_feed}
use Rattle.rows.specs.Cutter.{keep, emptied, held_text, Feeding, stopped, after, feed_of, finish_of}
use Rattle.rows.specs.Cutter.{FeedPromise, FinishPromise}
use Rattle.rows.specs.Whole.{FeedingGoesOn}
use Rattle.rows.specs.declared.Cutter.{Cutter}
use Rattle.rows.specs.declared.Fed.{Fed}

some_taken : (f : Feeding) (row : List ℕ) → 0 < (after row f).taken
unfolding after
some_taken f row = omega arith

pub feeding_goes_on : FeedingGoesOn
unfolding FeedingGoesOn feed_of
feeding_goes_on c [] room h r = absurd (omega arith)
feeding_goes_on c (b ∷ piece) room h r = rw (le-ltb room buffer_limit r) (go (eqb b line_feed))
  where
    row : Feeding
    row = after (row_of (held_text c)) (feed_of (emptied c) piece (room - length (row_of (held_text c))))

    go : (line : Bool) → 0 < (cond line row (after [] (feed_of (keep c b) piece room))).taken
    go true = some_taken (feed_of (emptied c) piece (room - length (row_of (held_text c)))) (row_of (held_text c))
    go false = some_taken (feed_of (keep c b) piece room) []

taken_after : (f : Feeding) (row : List ℕ) (n : ℕ) → f.taken ≤ n → (after row f).taken ≤ suc n
unfolding after
taken_after f row n h = omega arith

taken_within : (c : Cutter) (piece : List ℕ) (room : ℕ) → (feed_of c piece room).taken ≤ length piece
unfolding feed_of stopped
taken_within c [] room = omega arith
taken_within c (b ∷ piece) room =
    go (eqb b line_feed) (ltb room buffer_limit)
    (taken_within (emptied c) piece (room - length (row_of (held_text c))))
    (taken_within (keep c b) piece room)
  where
    answered : Feeding
    answered = feed_of (emptied c) piece (room - length (row_of (held_text c)))

    kept : Feeding
    kept = feed_of (keep c b) piece room

    go :
        (line short : Bool) → answered.taken ≤ length piece → kept.taken ≤ length piece →
        (cond line (cond short (stopped c) (after (row_of (held_text c)) answered)) (after [] kept)).taken ≤ suc (length piece)
    go true true row byte = omega arith
    go true false row byte = taken_after answered (row_of (held_text c)) (length piece) row
    go false short row byte = taken_after kept [] (length piece) byte

pub record Within (piece : List ℕ) (r : Fed) (left : List ℕ) : Type 0 where
  pub taken : r.taken ≤ length piece
  pub written : r.written ≤ length left

pub fed_within :
    (c : Cutter) (piece before : List ℕ) (r : Fed) (left : List ℕ) → FeedPromise c piece before r left →
    Within piece r left
fed_within c piece before r left p =
    let output = (feed_of c piece (length before)).output in
    record {
      taken = omega (arith, p.taken, taken_within c piece (length before));
      written = omega (arith, p.written, ap length p.buffer ∙ length-append output (drop (length output) before));
    }

pub fed_something :
    (c : Cutter) (piece before : List ℕ) (r : Fed) (left : List ℕ) → FeedPromise c piece before r left → 0 < length piece →
    buffer_limit ≤ length before → 0 < r.taken
unfolding FeedingGoesOn
fed_something c piece before r left p h room = omega (arith, p.taken, feeding_goes_on c piece (length before) h room)

pub finished_within :
    (c : Cutter) (before : List ℕ) (r : Written) (left : List ℕ) (n : ℕ) → FinishPromise c before r left → r ≡ Ok n →
    n ≤ length left
finished_within c before r left n p e = go (too_short before) (sym (ap written e) ∙ p.answer) p.buffer
  where
    output : List ℕ
    output = finish_of c

    go :
        (short : Bool) → row_length n ≡ cond short (no_row 11) (row_length (length output)) →
        left ≡ cond short before (output ++ drop (length output) before) → n ≤ length left
    go true a b = let z : ◌≡◌ {A = ℕ} 0 1 = cc in absurd (omega arith)
    go false a b =
        let size : n ≡ length output = cc in
        omega (arith, size, ap length b ∙ length-append output (drop (length output) before))
