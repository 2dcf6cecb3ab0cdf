-- `legendre::failing::no_root` meets its contract: there is nothing for a root where the number is no square.
-- Assumes nothing.
use mathlib.Core.Path.{◌≡◌, refl, sym, ap, ◌∙◌}
use mathlib.Core.Bool.{Bool, true, false, not, not-not}
use Prim.Native.Nat.{ℕ}
use mir.Facts.{to_z-of_z}
use Rattle.std.specs.Option.{is_some}
use Rattle.number.specs.Root.{least_root, least_if}
use Rattle.legendre.proofs.failing.no_root.Goals as goal

some_if : (b : Bool) (r : ℕ) → is_some (least_if b r) ≡ b
some_if true r = refl
some_if false r = refl

pub returns : goal.returns
unfolding least_root
returns c =
    let own = ap (least_root c.args.prime) (to_z-of_z c.ranges.number) in
    sym (ap not (sym (some_if _ _) ∙ ap is_some (sym own ∙ sym c.least_root.ensures) ∙ c.is_none.ensures) ∙ not-not _)
