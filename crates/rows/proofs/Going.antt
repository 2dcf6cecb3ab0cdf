-- What holds before each byte of a piece that is fed: what the code has so far, followed by what the definition makes
-- of the rest, is what the definition makes of the whole. A byte that is kept, a row that is answered and a stop each
-- carry it on. Assumes nothing.
use mathlib.Core.List.{List, [], ◌∷◌, ◌++◌, append_assoc, append-nil}
use mathlib.Core.Path.{◌≡◌, refl, ap, ap₂, sym, ◌∙◌, subst}
use Prim.Native.Nat.{ℕ, ◌+◌, ◌-◌, ◌≤◌, ◌<◌}
use native.Mathlib.Nat.{zero-add, add-zero, sub-zero}
use native.Mathlib.Numerals.{add-one}
use native.Mathlib.Omega.{arith}
use borrow.Author.Tests.{lt-ltb, le-ltb, ne_eqb}
use lib.ListN.{length, take, drop, get_or, drop_of_length-le, take-append-drop}
use lib.Seq.{drop-cons, drop-drop, length-take-le}
use Rattle.row.specs.Row.{row_of, buffer_limit}
use Rattle.row.specs.Writing.{line_feed}
use Rattle.rows.proofs.Placed.{placed_length, placed_start, placed_rest, RowPlaced, NoRoom}
use Rattle.rows.specs.Cutter.{Feeding, stopped, after, feed_of, keep, emptied, held_text, FeedPromise}
use Rattle.rows.specs.declared.Cutter.{Cutter}

-- n bytes were taken and this came out before the rest
pub onward : ℕ → List ℕ → Feeding → Feeding
onward n row f = record { cutter = f.cutter; taken = n + f.taken; output = row ++ f.output }

pub record Going (c : Cutter) (piece before : List ℕ) (current : Cutter) (taken written : ℕ) (left : List ℕ) : Type 0 where
  pub taken_within : taken ≤ length piece
  pub written_within : written ≤ length left
  pub same_length : length left ≡ length before
  pub rest_as_before : drop written left ≡ drop written before
  pub whole :
      feed_of c piece (length before) ≡ onward taken (take written left) (feed_of current (drop taken piece) (length before - written))

onward_nothing : (f : Feeding) → onward 0 [] f ≡ f
unfolding onward
onward_nothing f = λ i. record { cutter = f.cutter; taken = zero-add f.taken i; output = f.output }

pub starts : (c : Cutter) (piece before : List ℕ) → Going c piece before c 0 0 before
starts c piece before = record {
  taken_within = omega arith;
  written_within = omega arith;
  same_length = refl;
  rest_as_before = refl;
  whole = sym (onward_nothing (feed_of c piece (length before - 0)) ∙ ap (feed_of c piece) (sub-zero (length before)));
}

onward_after : (n : ℕ) (out row : List ℕ) (f : Feeding) → onward n out (after row f) ≡ onward (n + 1) (out ++ row) f
unfolding onward after
onward_after n out row f =
    let t : n + (f.taken + 1) ≡ n + 1 + f.taken = omega arith in
    λ i. record { cutter = f.cutter; taken = t i; output = sym (append_assoc out row f.output) i }

onward_stopped : (n : ℕ) (out : List ℕ) (c : Cutter) → onward n out (stopped c) ≡ record { cutter = c; taken = n; output = out }
unfolding onward stopped
onward_stopped n out c = λ i. record { cutter = c; taken = add-zero n i; output = append-nil out i }

fed_line_feed : (c : Cutter) (piece : List ℕ) (room : ℕ) → buffer_limit ≤ room →
    feed_of c (line_feed ∷ piece) room ≡ after (row_of (held_text c)) (feed_of (emptied c) piece (room - length (row_of (held_text c))))
unfolding feed_of
fed_line_feed c piece room h = simp (le-ltb _ _ h)

fed_no_room : (c : Cutter) (piece : List ℕ) (room : ℕ) → room < buffer_limit → feed_of c (line_feed ∷ piece) room ≡ stopped c
unfolding feed_of
fed_no_room c piece room h = simp (lt-ltb _ _ h)

fed_kept : (c : Cutter) (b : ℕ) (piece : List ℕ) (room : ℕ) → (b ≡ line_feed → ⊥) → feed_of c (b ∷ piece) room ≡ after [] (feed_of (keep c b) piece room)
unfolding feed_of
fed_kept c b piece room h = simp (ne_eqb _ _ h)

module _ (c : Cutter) (piece before : List ℕ) (current : Cutter) (taken written : ℕ) (left : List ℕ) where
  next_byte : taken < length piece → drop taken piece ≡ get_or piece taken 0 ∷ drop (taken + 1) piece
  next_byte h = rw add-one (drop-cons piece taken 0 h)

  -- one byte more
  further :
      Going c piece before current taken written left → taken < length piece → (row : List ℕ) (rest : Feeding) →
      feed_of current (get_or piece taken 0 ∷ drop (taken + 1) piece) (length before - written) ≡ after row rest →
      feed_of c piece (length before) ≡ onward (taken + 1) (take written left ++ row) rest
  further g h row rest e =
      g.whole
      ∙ ap (λ (bytes : List ℕ). onward taken (take written left) (feed_of current bytes (length before - written))) (next_byte h)
      ∙ ap (onward taken (take written left)) e
      ∙ onward_after taken (take written left) row rest

  pub kept :
      Going c piece before current taken written left → taken < length piece → (get_or piece taken 0 ≡ line_feed → ⊥) →
      Going c piece before (keep current (get_or piece taken 0)) (taken + 1) written left
  kept g h other =
      let rest = feed_of (keep current (get_or piece taken 0)) (drop (taken + 1) piece) (length before - written) in
      record {
        taken_within = omega arith;
        written_within = g.written_within;
        same_length = g.same_length;
        rest_as_before = g.rest_as_before;
        whole =
            further g h [] rest (fed_kept current (get_or piece taken 0) (drop (taken + 1) piece) (length before - written) other)
            ∙ ap (λ (out : List ℕ). onward (taken + 1) out rest) (append-nil (take written left));
      }

  pub answered :
      Going c piece before current taken written left → taken < length piece → get_or piece taken 0 ≡ line_feed → (n : ℕ) (next : List ℕ) →
      RowPlaced (held_text current) left written n next → Going c piece before (emptied current) (taken + 1) (written + n) next
  answered g h b n next p =
      let row = row_of (held_text current) in
      let bytes = drop (taken + 1) piece in
      let size : length next ≡ length left = ap length p.buffer ∙ placed_length left row written n p.row p.within in
      let enough : buffer_limit ≤ length before - written = omega (arith, g.same_length, p.room) in
      let room : length before - written - length row ≡ length before - (written + n) = omega (arith, p.row) in
      record {
        taken_within = omega arith;
        written_within = omega (arith, p.within, size);
        same_length = size ∙ g.same_length;
        rest_as_before =
            ap (drop (written + n)) p.buffer
            ∙ placed_rest left row written n p.row p.within
            ∙ sym (drop-drop n written left)
            ∙ ap (drop n) g.rest_as_before
            ∙ drop-drop n written before;
        whole =
            further g h row (feed_of (emptied current) bytes (length before - written - length row))
            (ap (λ (x : ℕ). feed_of current (x ∷ bytes) (length before - written)) b
            ∙ fed_line_feed current bytes (length before - written) enough)
            ∙ ap₂ (λ (out : List ℕ) (x : ℕ). onward (taken + 1) out (feed_of (emptied current) bytes x))
            (sym (ap (take (written + n)) p.buffer ∙ placed_start left row written n p.row p.within))
            room;
      }

  -- where the definition stops, the code has all
  stopped_here :
      Going c piece before current taken written left → feed_of current (drop taken piece) (length before - written) ≡ stopped current →
      FeedPromise c piece before (record { cutter = current; taken = taken; written = written }) left
  stopped_here g e =
      let here : feed_of c piece (length before) ≡ record { cutter = current; taken = taken; output = take written left } =
      g.whole ∙ ap (onward taken (take written left)) e ∙ onward_stopped taken (take written left) current
      in
      let size : length (take written left) ≡ written = length-take-le written left g.written_within in
      record {
        cutter = sym (ap (λ (f : Feeding). f.cutter) here);
        taken = sym (ap (λ (f : Feeding). f.taken) here);
        written = sym (ap (λ (f : Feeding). length f.output) here ∙ size);
        buffer =
            sym (take-append-drop written left)
            ∙ ap (λ (rest : List ℕ). take written left ++ rest) g.rest_as_before
            ∙ ap₂ (λ (out : List ℕ) (n : ℕ). out ++ drop n before)
            (sym (ap (λ (f : Feeding). f.output) here))
            (sym (ap (λ (f : Feeding). length f.output) here ∙ size));
      }

  pub ends :
      Going c piece before current taken written left → length piece ≤ taken →
      FeedPromise c piece before (record { cutter = current; taken = length piece; written = written }) left
  unfolding feed_of
  ends g h =
      let all : taken ≡ length piece = omega (arith, g.taken_within) in
      subst (λ (n : ℕ). FeedPromise c piece before (record { cutter = current; taken = n; written = written }) left) all
      (stopped_here g
      (ap (λ (bytes : List ℕ). feed_of current bytes (length before - written)) (drop_of_length-le piece h)))

  pub stops :
      Going c piece before current taken written left → taken < length piece → get_or piece taken 0 ≡ line_feed → (next : List ℕ) →
      NoRoom left written next → FeedPromise c piece before (record { cutter = current; taken = taken; written = written }) next
  stops g h b next p =
      let room : length before - written < buffer_limit = omega (arith, g.same_length, p.room) in
      rw p.buffer
      (stopped_here g
      (ap (λ (bytes : List ℕ). feed_of current bytes (length before - written)) (next_byte h)
      ∙ ap (λ (x : ℕ). feed_of current (x ∷ drop (taken + 1) piece) (length before - written)) b
      ∙ fed_no_room current (drop (taken + 1) piece) (length before - written) room))
