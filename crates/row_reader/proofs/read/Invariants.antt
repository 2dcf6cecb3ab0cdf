-- What the loop of `row_reader::read` keeps: the numbers so far and those of the parts that are left are the row's.
-- Assumes nothing.
use Rattle.std.proofs.Common.{◌≡◌, length, take}
use Rattle.row_reader.specs.Reading.{space, parts_at, read_numbers}
use Rattle.row_reader.proofs.Cutting.{left}
use Rattle.row_reader.proofs.Numbers.{with_parts}
use Rattle.row_reader.proofs.read.Given as goal

abbrev pub invariant-loop-n : goal.invariant-loop-n
invariant-loop-n l = record {
  room_for_six : length l.n-items ≡ 6;
  numbers :
      read_numbers (parts_at space l.text) ≡
      with_parts (take l.n-index l.n-items) (left l.parts.done l.parts.rest.now);
}
