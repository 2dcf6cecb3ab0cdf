-- What the loop of `row_reader::value` keeps: the value and the rest of the digits make the number, and the value has no
-- more digits than were passed. Assumes nothing.
use Rattle.std.proofs.Common.{◌≡◌, ◌<◌, ◌^◌, drop}
use Rattle.row_reader.specs.Reading.{read_digits}
use Rattle.row_reader.proofs.Digits.{with_more}
use Rattle.row_reader.proofs.value.Given as goal

abbrev pub invariant-loop-b : goal.invariant-loop-b
invariant-loop-b l = record {
  number : read_digits l.text ≡ with_more l.value (drop l.b-index l.text);
  value_within : l.value < 10 ^ l.b-index;
}
