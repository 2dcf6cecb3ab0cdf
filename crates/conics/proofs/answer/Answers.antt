-- `conics::answer` is safe: with room for a row each feed takes something and never more than is left of the piece.
-- Assumes nothing.
use Rattle.std.proofs.Common.{rules}
use Rattle.rows.proofs.GoesOn.{fed_within, fed_something}
use Rattle.conics.proofs.answer.Goals as goal

pub slice_bounds-piece-count : goal.slice_bounds-piece-count
slice_bounds-piece-count g c = let most = (fed_within _ _ _ _ _ c.feed-fed.ensures).taken in search rules

pub slice_bounds-piece-start : goal.slice_bounds-piece-start
slice_bounds-piece-start g c = let most = (fed_within _ _ _ _ _ c.feed-fed.ensures).taken in search rules

pub loop-piece-smaller : goal.loop-piece-smaller
loop-piece-smaller g c =
    let most = (fed_within _ _ _ _ _ c.feed-fed.ensures).taken in
    let least = fed_something _ _ _ _ _ c.feed-fed.ensures (search rules) (search rules) in
    search rules
