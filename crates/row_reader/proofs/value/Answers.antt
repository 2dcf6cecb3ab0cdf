-- `row_reader::value` meets its contract: a text of another length is no number, a digit more makes ten times the value
-- and the digit, and another byte makes no number. Assumes nothing.
use Rattle.std.proofs.Common.{◌<◌, inl, inr, sym, ◌∙◌, arith, rules}
use Rattle.std.proofs.lemmas.Grind.{common_steps}
use Rattle.row_reader.proofs.Digits.{before_all, wrong_length, at_digit, at_other, after_all}
use Rattle.row_reader.proofs.value.Goals as goal
use Rattle.row_reader.proofs.value.Goals.{then-is_empty-via-then-is_empty, then-is_empty-via-else-is_empty+then-text-gt-DIGIT_LIMIT}

pub returns-then-is_empty : goal.returns-then-is_empty
returns-then-is_empty c =
    elim c.then-is_empty.branch [
      | then-is_empty-via-then-is_empty w ↦ wrong_length _ (inl (grind arith))
      | then-is_empty-via-else-is_empty+then-text-gt-DIGIT_LIMIT w ↦ wrong_length _ (inr w.if-text-gt-DIGIT_LIMIT.true)
    ]

pub loop-b-init : goal.loop-b-init
loop-b-init c = record {
  number = before_all c.args.text.now (grind arith) c.if-text-gt-DIGIT_LIMIT.false;
  value_within = omega arith;
}

pub returns-in_err-value : goal.returns-in_err-value
returns-in_err-value c =
    c.from_residual.ensures
    ∙ sym (c.loop-b.invariant.number
    ∙ at_other c.loop-b.value c.args.text.now c.loop-b.b-index c.loop-b-test.true (search rules))

pub loop-b-preserved : goal.loop-b-preserved
loop-b-preserved c =
    let text = c.args.text.now in
    let i = c.loop-b.b-index in
    let ten : c.in_ok-value.field-0 < 10 = search rules in
    record {
      number = c.loop-b.invariant.number ∙ at_digit c.loop-b.value _ text i c.loop-b-test.true ten (search rules);
      value_within = grind (arith, common_steps);
    }

pub returns : goal.returns
returns c = sym (c.loop-b.invariant.number ∙ after_all c.loop-b.value _ _ c.loop-b-test.false)
