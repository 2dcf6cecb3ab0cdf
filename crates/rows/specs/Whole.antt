-- However an input is cut into pieces, the bytes produced are those of the whole input's rows, one after another
-- (`PiecesGiveWhole`), and with room for a row some of each piece is taken (`FeedingGoesOn`). Assumes nothing.
use Rattle.std.specs.Prelude.{List, [], ◌++◌, ◌≡◌, ℕ, ◌≤◌, ◌<◌, length, take}
use Rattle.row.specs.Row.{buffer_limit}
use Rattle.rows.specs.Cutter.{new_cutter, feed_of, finish_of}
use Rattle.rows.specs.Input.{output_of}
use Rattle.rows.specs.declared.Cutter.{Cutter}

-- pieces fed one after another, each with some room: the cutter, the input taken so far, and the output so far
pub data Run : Cutter → List ℕ → List ℕ → Type 0 where
  start : Run new_cutter [] []
  fed : {c : Cutter} {input output : List ℕ} → Run c input output → (piece : List ℕ) (room : ℕ) →
      Run (feed_of c piece room).cutter (input ++ take (feed_of c piece room).taken piece)
      (output ++ (feed_of c piece room).output)

unfoldable pub PiecesGiveWhole : Type 0
PiecesGiveWhole =
    (c : Cutter) (input output : List ℕ) → Run c input output → output ++ finish_of c ≡ output_of input

-- with room for a row something is taken
unfoldable pub FeedingGoesOn : Type 0
FeedingGoesOn =
    (c : Cutter) (piece : List ℕ) (room : ℕ) → 0 < length piece → buffer_limit ≤ room → 0 < (feed_of c piece room).taken
