-- However an input is cut into pieces, the output is that of its rows: a run and the rest are the whole, and what a
-- cutter makes of a rest are the answers to the rest's rows, the first with the held row in front. Assumes nothing.
use mathlib.Core.Bool.{Bool, true, false, cond}
use mathlib.Core.List.{List, [], ◌∷◌, ◌++◌, append-nil, append_assoc}
use mathlib.Core.Path.{◌≡◌, refl, ap, ap₂, sym, ◌∙◌, subst}
use Prim.Native.Nat.{ℕ}
use lib.Dec.{eqb}
use Rattle.std.specs.List.{onto_first}
use Rattle.row_reader.specs.Reading.{parts_at}
use Rattle.row_reader.proofs.Cutting.{split}
use Rattle.row.specs.Row.{row_of}
use Rattle.row.specs.Writing.{line_feed}
use Rattle.rows.specs.Cutter.{new_cutter, keep, emptied, held_text, finish_of}
use Rattle.rows.specs.Input.{answers, last_row, counted, rows_of, output_of}
use Rattle.rows.specs.Whole.{PiecesGiveWhole}
use Rattle.rows.specs.declared.Cutter.{Cutter}
use Rattle.rows.proofs.Holds.{Holds, holds_nothing, holds_kept, same_row, same_last}
use Rattle.rows.proofs.Rest.{rest_of, run_and_rest}

-- there is always a part
some_part :
    (P : List (List ℕ) → Type 0) → ((part : List ℕ) (parts : List (List ℕ)) → P (part ∷ parts)) → (bytes : List ℕ) →
    P (parts_at line_feed bytes)
some_part P f bytes = let cut = split line_feed bytes in subst P (sym cut.is) (f cut.part cut.parts)

-- a text in front of the first part
joined : List ℕ → List (List ℕ) → List (List ℕ)
joined text [] = text ∷ []
joined text (part ∷ parts) = (text ++ part) ∷ parts

joined_byte : (text : List ℕ) (b : ℕ) (parts : List (List ℕ)) → joined (text ++ b ∷ []) parts ≡ joined text (onto_first b parts)
unfolding joined
joined_byte text b [] = refl
joined_byte text b (part ∷ parts) = ap (λ (first : List ℕ). first ∷ parts) (append_assoc text (b ∷ []) part)

joined_nothing : (bytes : List ℕ) → joined [] (parts_at line_feed bytes) ≡ parts_at line_feed bytes
unfolding joined
joined_nothing = some_part (λ parts. joined [] parts ≡ parts) (λ part parts. refl)

-- a part before others counts
counted_first : (text : List ℕ) (bytes : List ℕ) → answers (counted (text ∷ parts_at line_feed bytes)) ≡ row_of text ++ answers (counted (parts_at line_feed bytes))
unfolding counted answers
counted_first text = some_part (λ parts. answers (counted (text ∷ parts)) ≡ row_of text ++ answers (counted parts)) (λ part parts. refl)

Answered : Cutter → List ℕ → List ℕ → Type 0
Answered c text bytes = rest_of c bytes ≡ answers (counted (joined text (parts_at line_feed bytes)))

end_answered : (c : Cutter) (text : List ℕ) → Holds c text → Answered c text []
unfolding Answered rest_of finish_of parts_at joined counted
end_answered c text h = same_last c text h ∙ ap (λ (row : List ℕ). answers (last_row row)) (sym (append-nil text))

byte_answered :
    (c : Cutter) (text : List ℕ) (b : ℕ) (bytes : List ℕ) → Holds c text → Answered (emptied c) [] bytes →
    Answered (keep c b) (text ++ b ∷ []) bytes → Answered c text (b ∷ bytes)
unfolding Answered rest_of parts_at joined
byte_answered c text b bytes h row byte = go (eqb b line_feed)
  where
    go :
        (line : Bool) →
        cond line (row_of (held_text c) ++ rest_of (emptied c) bytes) (rest_of (keep c b) bytes)
        ≡ answers (counted (joined text (cond line ([] ∷ parts_at line_feed bytes) (onto_first b (parts_at line_feed bytes)))))
    go true =
        ap₂ (λ (x y : List ℕ). x ++ y) (same_row c text h)
        (row ∙ ap (λ (parts : List (List ℕ)). answers (counted parts)) (joined_nothing bytes))
        ∙ sym (counted_first text bytes)
        ∙ ap (λ (first : List ℕ). answers (counted (first ∷ parts_at line_feed bytes))) (sym (append-nil text))
    go false = byte ∙ ap (λ (parts : List (List ℕ)). answers (counted parts)) (joined_byte text b (parts_at line_feed bytes))

answered : (c : Cutter) (text bytes : List ℕ) → Holds c text → Answered c text bytes
answered c text [] h = end_answered c text h
answered c text (b ∷ bytes) h =
    byte_answered c text b bytes h
    (answered (emptied c) [] bytes (holds_nothing c h.size))
    (answered (keep c b) (text ++ b ∷ []) bytes (holds_kept c text b h))

rest_of_new : (input : List ℕ) → rest_of new_cutter input ≡ output_of input
unfolding output_of rows_of Answered
rest_of_new input =
    answered new_cutter [] input (holds_nothing new_cutter refl)
    ∙ ap (λ (parts : List (List ℕ)). answers (counted parts)) (joined_nothing input)

pub pieces_give_whole : PiecesGiveWhole
unfolding PiecesGiveWhole rest_of
pieces_give_whole c input output run =
    sym (run_and_rest run []) ∙ ap (rest_of new_cutter) (append-nil input) ∙ rest_of_new input
