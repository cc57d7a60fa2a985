-- `vectors::step` takes one entry: each return by the entry's case, and the parts lent lie within the list.
use mathlib.Core.Path.{◌∙◌, sym}
use native.Mathlib.Omega.{arith}
use borrow.Author.Tests.{eq-eqb, ne_eqb}
use Rattle.vectors.proofs.Laws.{inside}
use Rattle.vectors.specs.Replays.{step_of}
use Rattle.vectors.proofs.step.Goals as goal

-- GONE part-all-agree-start-2 : tie.Need-slice-bounds-all-agree-start-2
-- part-all-agree-start-2 c = omega (arith, inside _ _ _ _ _ _ c.before.before.before.asked.given.1 c.before.before.before.before.before.entry_at.ensures.1)

pub overflow_add-input : goal.overflow_add-input
overflow_add-input c = omega (arith, inside _ _ _ _ _ _ c.in-Asked.is c.entry_at.ensures.1)

pub overflow_add-answer : goal.overflow_add-answer
overflow_add-answer c = omega (arith, inside _ _ _ _ _ _ c.in-Asked.is c.entry_at.ensures.1)

pub overflow_add-next : goal.overflow_add-next
overflow_add-next c = omega (arith, inside _ _ _ _ _ _ c.in-Asked.is c.entry_at.ensures.1)

pub slice_bounds-all_agree-count : goal.slice_bounds-all_agree-count
slice_bounds-all_agree-count c = omega (arith, inside _ _ _ _ _ _ c.in-Asked.is c.entry_at.ensures.1)

pub slice_bounds-all_agree-start : goal.slice_bounds-all_agree-start
slice_bounds-all_agree-start c = omega (arith, inside _ _ _ _ _ _ c.in-Asked.is c.entry_at.ensures.1)

pub slice_bounds-all_agree-end : goal.slice_bounds-all_agree-end
slice_bounds-all_agree-end c = omega (arith, inside _ _ _ _ _ _ c.in-Asked.is c.entry_at.ensures.1)

pub slice_bounds-all_agree-count-then-asked-question : goal.slice_bounds-all_agree-count-then-asked-question
slice_bounds-all_agree-count-then-asked-question c = omega (arith, inside _ _ _ _ _ _ c.in-Asked.is c.entry_at.ensures.1)

pub returns-in-End : goal.returns-in-End
unfolding step_of
returns-in-End c = simp (sym c.entry_at.ensures.0 ∙ c.in-End.is)

pub returns-in-Cut : goal.returns-in-Cut
unfolding step_of
returns-in-Cut c = simp (sym c.entry_at.ensures.0 ∙ c.in-Cut.is, c.one_more.ensures)

pub returns-then-asked-question : goal.returns-then-asked-question
unfolding step_of
returns-then-asked-question c = simp (sym c.entry_at.ensures.0 ∙ c.in-Asked.is, eq-eqb _ _ c.if-asked-question.true, ← c.all_agree.ensures) c.counted.ensures

pub returns-else-asked-question : goal.returns-else-asked-question
unfolding step_of
returns-else-asked-question c = simp (sym c.entry_at.ensures.0 ∙ c.in-Asked.is, ne_eqb _ _ c.if-asked-question.false)
