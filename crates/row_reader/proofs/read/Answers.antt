-- `row_reader::read` meets its contract: an empty text is none, a part more is a number more, and where there is none, or
-- the row has too few parts or too many, the whole row is none. Assumes nothing.
use Rattle.std.proofs.Common.{◌≡◌, refl, ◌∙◌, ap, sym, List, [], ◌∷◌, length, ℕ, take, get_or, w64, to_z-of_z}
use Rattle.std.proofs.Common.{rules, tests, arith}
use Rattle.std.specs.Prelude.{pos, None}
use Rattle.row_reader.specs.Reading.{parts_at, read_number, read_numbers, and_then, six, read_row}
use mir.Val.{SFits}
use Rattle.std.proofs.lemmas.Grind.{common_steps}
use Rattle.row_reader.proofs.Cutting.{split_gives}
use Rattle.row_reader.proofs.Numbers.{with_parts, before_all, row_is, one_more, too_few, too_many, broken, all_six}
use Rattle.row_reader.proofs.read.Goals as goal

-- an empty text is one part, which is no number
empty_is_none : (text : List ℕ) → length text ≡ 0 → None ≡ read_row text
unfolding read_row parts_at read_numbers read_number and_then six
empty_is_none [] e = refl
empty_is_none (b ∷ text) e = cc

pub returns-then-is_empty : goal.returns-then-is_empty
returns-then-is_empty c = empty_is_none c.args.text.now (grind arith)

pub loop-n-init : goal.loop-n-init
loop-n-init c = record {
  room_for_six = search rules;
  numbers =
      let d = c.split-parts.ensures.done in
      let r = c.split-parts.ensures.rest in
      before_all _ ∙ ap (with_parts []) (simp (d, r));
}

pub returns-in_err-next : goal.returns-in_err-next
returns-in_err-next c =
    let next = split_gives _ _ _ _ c.next.ensures.steps (λ b r f k. search (rules, tests)) in
    c.from_residual.ensures
    ∙ too_few (take c.loop-n.n-index c.loop-n.n-items) (grind (arith, common_steps))
    ∙ simp c.in_err-next.was at (row_is c.args.text.now _ c.next.result _ c.loop-n.invariant.numbers next)

pub returns-in_err-n : goal.returns-in_err-n
returns-in_err-n c =
    let next = split_gives _ _ _ _ c.next.ensures.steps (λ b r f k. search (rules, tests)) in
    c.from_residual-in_err-n.ensures
    ∙ broken (take c.loop-n.n-index c.loop-n.n-items) _ _ c.in_err-n.ensures
    ∙ simp c.in_ok-next.was at (row_is c.args.text.now _ c.next.result _ c.loop-n.invariant.numbers next)

pub loop-n-preserved : goal.loop-n-preserved
loop-n-preserved c =
    let fits : SFits w64 c.in_ok-n.field-0 = search rules in
    let next = split_gives _ _ _ _ c.next.ensures.steps (λ b r f k. search (rules, tests)) in
    record {
      room_for_six = search rules;
      numbers =
          c.loop-n.invariant.numbers
          ∙ ap (with_parts (take c.loop-n.n-index c.loop-n.n-items)) next
          ∙ simp (to_z-of_z fits, c.in_ok-next.was)
          (one_more c.loop-n.n-items c.loop-n.n-index _ _ (omega arith) c.in_ok-n.ensures);
    }

pub returns-then-is_some : goal.returns-then-is_some
returns-then-is_some c =
    let next = split_gives _ _ _ _ c.next-2.ensures.steps (λ b r f k. search (rules, tests)) in
    let all : take c.loop-n.n-index c.loop-n.n-items ≡ c.loop-n.n-items = grind (arith, common_steps) in
    too_many c.loop-n.n-items c.next-2.result _ (omega arith) (sym c.is_some.ensures ∙ c.if-is_some.true)
    ∙ row_is c.args.text.now _ c.next-2.result _ (rw all at c.loop-n.invariant.numbers) next

pub returns : goal.returns
returns c =
    let next = split_gives _ _ _ _ c.next-2.ensures.steps (λ b r f k. search (rules, tests)) in
    let all : take c.loop-n.n-index c.loop-n.n-items ≡ c.loop-n.n-items = grind (arith, common_steps) in
    let fits : (k : ℕ) → SFits w64 (get_or c.loop-n.n-items k (pos 0)) = λ k. search rules in
    rw (to_z-of_z (fits 0), to_z-of_z (fits 1), to_z-of_z (fits 2), to_z-of_z (fits 3), to_z-of_z (fits 4), to_z-of_z (fits 5))
    (all_six c.loop-n.n-items c.next-2.result _ c.loop-n.invariant.room_for_six (sym c.is_some.ensures ∙ c.if-is_some.false)
    ∙ row_is c.args.text.now _ c.next-2.result _ (rw all at c.loop-n.invariant.numbers) next)
