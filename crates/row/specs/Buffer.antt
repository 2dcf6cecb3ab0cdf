-- A row in the making, with bytes written after what it had: they count as its own, it stays in the same buffer, and
-- the rest of that is as it was. Assumes nothing.
use Rattle.std.specs.Prelude.{List, ◌≡◌, ℕ, ◌+◌, ◌≤◌, length}
use Rattle.std.proofs.lemmas.List.Edits.{sets}
use Rattle.row.specs.declared.text.RowText.{RowText}

abbrev pub HasRoom : List ℕ → RowText → Type 0
HasRoom bytes row = row.length + length bytes ≤ length row.out.now

pub record Wrote (bytes : List ℕ) (before after : RowText) : Type 0 where
  pub same : after.out.ghost_name ≡ before.out.ghost_name
  pub place : after.length ≡ before.length + length bytes
  pub buffer : after.out.now ≡ sets before.out.now before.length bytes
