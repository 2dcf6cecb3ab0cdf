-- `row::answer::coordinates` meets its contract: five writes in a row are one of the row's text. Assumes nothing.
use Rattle.std.proofs.Common.{rules, ℕ, List, [], ◌∷◌, ◌++◌, arith}
use lib.IntN.{ℤ}
use mir.Syntax.{w64}
use mir.Val.{SFits, to_z, of_z}
use mir.Facts.{to_z-of_z}
use Rattle.point.specs.Paper.{point}
use Rattle.point.specs.declared.Point.{Point}
use Rattle.row_reader.specs.Reading.{space}
use Rattle.row.specs.Writing.{line_feed, signed_decimal, row_text}
use Rattle.row.specs.Buffer.{HasRoom, Wrote}
use Rattle.row.specs.declared.text.RowText.{RowText}
use Rattle.row.proofs.Buffer.{wrote_both, room_for_first, room_after}
use Rattle.row.proofs.answer.coordinates.Goals as goal

-- the text as it grows
abbrev spaced_text : ℤ → List ℕ
spaced_text n = space ∷ signed_decimal n

abbrev to_x : Point → List ℕ
to_x p = 80 ∷ spaced_text p.x

abbrev to_y : Point → List ℕ
to_y p = to_x p ++ spaced_text p.y

abbrev up_to_z : Point → List ℕ
up_to_z p = to_y p ++ spaced_text p.z

-- a number that was passed on is read back as it is
number_written :
    {xs : List ℕ} {before middle after : RowText} {n : ℤ} → SFits w64 n → Wrote xs before middle →
    Wrote (spaced_text (to_z w64 (of_z w64 n))) middle after → Wrote (xs ++ spaced_text n) before after
number_written f first second = wrote_both first (rw (to_z-of_z f) at second)

number_fits :
    (xs : List ℕ) {before middle : RowText} {n : ℤ} → SFits w64 n → Wrote xs before middle →
    HasRoom (xs ++ spaced_text n) before → HasRoom (spaced_text (to_z w64 (of_z w64 n))) middle
number_fits xs {n = n} f first room = rw (to_z-of_z f) (room_after xs (spaced_text n) first room)

-- "P x y z" stands there
point_written :
    (p : Point) {r r₀ r₁ r₂ r₃ : RowText} → SFits w64 p.x → SFits w64 p.y → SFits w64 p.z →
    Wrote (80 ∷ []) r r₀ → Wrote (spaced_text (to_z w64 (of_z w64 p.x))) r₀ r₁ →
    Wrote (spaced_text (to_z w64 (of_z w64 p.y))) r₁ r₂ → Wrote (spaced_text (to_z w64 (of_z w64 p.z))) r₂ r₃ →
    Wrote (up_to_z p) r r₃
point_written p x y z first wx wy wz = number_written z (number_written y (number_written x first wx) wy) wz

-- ---- room for each part

room : (p : Point) (r : RowText) → HasRoom (row_text (point p)) r → HasRoom (up_to_z p ++ line_feed ∷ []) r
unfolding row_text
room p r h = h

room_to_z : (p : Point) (r : RowText) → HasRoom (row_text (point p)) r → HasRoom (up_to_z p) r
room_to_z p r h = room_for_first (up_to_z p) (line_feed ∷ []) r (room p r h)

room_to_y : (p : Point) (r : RowText) → HasRoom (row_text (point p)) r → HasRoom (to_y p) r
room_to_y p r h = room_for_first (to_y p) (spaced_text p.z) r (room_to_z p r h)

room_to_x : (p : Point) (r : RowText) → HasRoom (row_text (point p)) r → HasRoom (to_x p) r
room_to_x p r h = room_for_first (to_x p) (spaced_text p.y) r (room_to_y p r h)

-- ---- each part

pub byte-requires : goal.byte-requires
byte-requires c = omega (arith, room_to_x c.args.p c.args.row.now c.requires)

pub spaced-requires : goal.spaced-requires
spaced-requires c =
    let p = c.args.p in
    let x : SFits w64 p.x = search rules in
    number_fits (80 ∷ []) x c.byte.ensures (room_to_x p c.args.row.now c.requires)

pub spaced-requires-2 : goal.spaced-requires-2
spaced-requires-2 c =
    let p = c.args.p in
    let x : SFits w64 p.x = search rules in
    let y : SFits w64 p.y = search rules in
    number_fits (to_x p) y (number_written x c.byte.ensures c.spaced.ensures) (room_to_y p c.args.row.now c.requires)

pub spaced-requires-3 : goal.spaced-requires-3
spaced-requires-3 c =
    let p = c.args.p in
    let x : SFits w64 p.x = search rules in
    let y : SFits w64 p.y = search rules in
    let z : SFits w64 p.z = search rules in
    number_fits (to_y p) z
    (number_written y (number_written x c.byte.ensures c.spaced.ensures) c.spaced-2.ensures)
    (room_to_z p c.args.row.now c.requires)

pub byte-requires-2 : goal.byte-requires-2
byte-requires-2 c =
    let p = c.args.p in
    let w =
    point_written p (search rules) (search rules) (search rules) c.byte.ensures c.spaced.ensures c.spaced-2.ensures
    c.spaced-3.ensures
    in
    room_after (up_to_z p) (line_feed ∷ []) w (room p c.args.row.now c.requires)

pub returns : goal.returns
unfolding row_text
returns c =
    let p = c.args.p in
    let w =
    point_written p (search rules) (search rules) (search rules) c.byte.ensures c.spaced.ensures c.spaced-2.ensures
    c.spaced-3.ensures
    in
    wrote_both w c.byte-2.ensures
