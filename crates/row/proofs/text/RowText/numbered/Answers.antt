-- `row::text::RowText::numbered` meets its contract: three writes in a row are one of the three texts. Assumes
-- nothing.
use Rattle.std.proofs.Common.{[], ◌∷◌, ◌++◌}
use Rattle.row.specs.Writing.{line_feed, decimal}
use Rattle.row.proofs.Buffer.{wrote_both, room_for_first, room_after}
use Rattle.row.proofs.text.RowText.numbered.Goals as goal

pub decimal-requires : goal.decimal-requires
decimal-requires c =
    let words = c.args.words.now in
    let number = decimal c.args.n in
    let room = room_for_first (words ++ number) (line_feed ∷ []) c.args.self.now c.requires in
    room_after words number c.words.ensures room

pub byte-requires : goal.byte-requires
byte-requires c =
    let first = wrote_both c.words.ensures c.decimal.ensures in
    room_after (c.args.words.now ++ decimal c.args.n) (line_feed ∷ []) first c.requires

pub returns : goal.returns
returns c = wrote_both (wrote_both c.words.ensures c.decimal.ensures) c.byte.ensures
