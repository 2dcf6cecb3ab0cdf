-- The split of a number as the value that `split` returns. Assumes nothing.
use Rattle.std.specs.Prelude.{ℤ}
use Rattle.number.specs.Squarefree.{square_part, free_part}
use Rattle.number.specs.declared.splitting.Parts.{Parts}

abbrev pub split_of : ℤ → Parts
split_of n = record { free = free_part n; square = square_part n }
