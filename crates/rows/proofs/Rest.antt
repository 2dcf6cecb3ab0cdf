-- What a cutter makes of the rest of an input with all the room it wants: a feed is a part of it, whatever the room, so
-- a run of feeds followed by the rest is the whole. Assumes nothing.
use mathlib.Core.Bool.{Bool, true, false, cond}
use mathlib.Core.List.{List, [], ◌∷◌, ◌++◌, append_assoc}
use mathlib.Core.Path.{◌≡◌, refl, ap, sym, ◌∙◌}
use Prim.Native.Nat.{ℕ, ◌-◌}
use native.Mathlib.Numerals.{add-one}
use lib.Dec.{eqb, ltb}
use lib.ListN.{length, take}
use Rattle.row.specs.Row.{row_of, buffer_limit}
use Rattle.row.specs.Writing.{line_feed}
use Rattle.rows.specs.Cutter.{new_cutter, keep, emptied, held_text, Feeding, stopped, after, feed_of, finish_of}
use Rattle.rows.specs.Whole.{Run, Run.start, Run.fed}
use Rattle.rows.specs.declared.Cutter.{Cutter}

unfoldable pub rest_of : Cutter → List ℕ → List ℕ
rest_of c [] = finish_of c
rest_of c (b ∷ bytes) =
    cond (eqb b line_feed) (row_of (held_text c) ++ rest_of (emptied c) bytes) (rest_of (keep c b) bytes)

-- this feeding of a piece is a part of what the cutter makes of the piece and the rest
Part : Cutter → List ℕ → Feeding → Type 0
Part c piece f = (rest : List ℕ) → rest_of c (take f.taken piece ++ rest) ≡ f.output ++ rest_of f.cutter rest

nothing_fed : (c : Cutter) (piece : List ℕ) → Part c piece (stopped c)
unfolding Part stopped
nothing_fed c piece rest = refl

row_fed :
    (c : Cutter) (b : ℕ) (piece : List ℕ) (f : Feeding) → eqb b line_feed ≡ true → Part (emptied c) piece f →
    Part c (b ∷ piece) (after (row_of (held_text c)) f)
unfolding Part after rest_of
row_fed c b piece f e p rest =
    ap (λ (n : ℕ). rest_of c (take n (b ∷ piece) ++ rest)) (add-one f.taken)
    ∙ rw e
    (ap (λ (out : List ℕ). row_of (held_text c) ++ out) (p rest)
    ∙ sym (append_assoc (row_of (held_text c)) f.output (rest_of f.cutter rest)))

byte_fed :
    (c : Cutter) (b : ℕ) (piece : List ℕ) (f : Feeding) → eqb b line_feed ≡ false → Part (keep c b) piece f →
    Part c (b ∷ piece) (after [] f)
unfolding Part after rest_of
byte_fed c b piece f e p rest =
    ap (λ (n : ℕ). rest_of c (take n (b ∷ piece) ++ rest)) (add-one f.taken) ∙ rw e (p rest)

either_fed :
    (c : Cutter) (b : ℕ) (piece : List ℕ) (room : ℕ) →
    Part (emptied c) piece (feed_of (emptied c) piece (room - length (row_of (held_text c)))) →
    Part (keep c b) piece (feed_of (keep c b) piece room) → Part c (b ∷ piece) (feed_of c (b ∷ piece) room)
unfolding feed_of
either_fed c b piece room row byte = go (eqb b line_feed) (ltb room buffer_limit) refl
  where
    go :
        (line short : Bool) → eqb b line_feed ≡ line →
        Part c (b ∷ piece)
        (cond line
        (cond short
        (stopped c)
        (after (row_of (held_text c)) (feed_of (emptied c) piece (room - length (row_of (held_text c))))))
        (after [] (feed_of (keep c b) piece room)))
    go true true e = nothing_fed c (b ∷ piece)
    go true false e = row_fed c b piece (feed_of (emptied c) piece (room - length (row_of (held_text c)))) e row
    go false short e = byte_fed c b piece (feed_of (keep c b) piece room) e byte

feeding_is_part : (c : Cutter) (piece : List ℕ) (room : ℕ) → Part c piece (feed_of c piece room)
unfolding feed_of
feeding_is_part c [] room = nothing_fed c []
feeding_is_part c (b ∷ piece) room =
    either_fed c b piece room
    (feeding_is_part (emptied c) piece (room - length (row_of (held_text c))))
    (feeding_is_part (keep c b) piece room)

pub run_and_rest : {c : Cutter} {input output : List ℕ} → Run c input output → (rest : List ℕ) → rest_of new_cutter (input ++ rest) ≡ output ++ rest_of c rest
unfolding Part
run_and_rest start rest = refl
run_and_rest (fed {c} {input} {output} run piece room) rest =
    let f = feed_of c piece room in
    ap (rest_of new_cutter) (append_assoc input (take f.taken piece) rest)
    ∙ run_and_rest run (take f.taken piece ++ rest)
    ∙ ap (λ (out : List ℕ). output ++ out) (feeding_is_part c piece room rest)
    ∙ sym (append_assoc output f.output (rest_of f.cutter rest))
