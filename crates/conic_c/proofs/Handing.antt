-- From the library's refusals to the exported functions' codes: the paper's number of a refusal is at most 16. By cases
-- on the refusals. Assumes nothing.
use Prim.Native.Nat.{◌≤◌}
use lib.Dec.{lit≤}
use Rattle.point.specs.Paper.{number}
use Rattle.point.specs.declared.paper.Refusal.{Refusal}

pub number_at_most : (r : Refusal) → number r ≤ 16
number_at_most Refusal.Range = lit≤ tt
number_at_most Refusal.Degenerate = lit≤ tt
number_at_most Refusal.Base = lit≤ tt
number_at_most Refusal.BaseOff = lit≤ tt
number_at_most Refusal.Direction = lit≤ tt
number_at_most Refusal.Target = lit≤ tt
number_at_most Refusal.TargetOff = lit≤ tt
number_at_most Refusal.Row = lit≤ tt
number_at_most Refusal.Buffer = lit≤ tt
number_at_most Refusal.Layout = lit≤ tt
number_at_most Refusal.Body = lit≤ tt
number_at_most Refusal.Room = lit≤ tt
number_at_most Refusal.List = lit≤ tt
number_at_most Refusal.Number = lit≤ tt
