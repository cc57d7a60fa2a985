-- `decode::contents`: each return is one way that reading the body can end.
use mathlib.Core.List.{List}
use mathlib.Core.Path.{sym, ap, ap₂, ◌∙◌}
use Rattle.std.proofs.lemmas.Result.{err_from_is_err_and}
use Rattle.validation.specs.Sound.{valid_answer}
use Rattle.model.specs.declared.Block.{Block}
use Rattle.model.specs.declared.Step.{Step}
use Rattle.model.specs.Workout.{no_step, no_block}
use Rattle.cursor.specs.Reading.{read_many}
use Rattle.cursor.proofs.Answers.{given, refusal}
use Rattle.steps.specs.Steps.{read_step}
use Rattle.decode.proofs.Body.{list-given, list-refusal, head-fails, steps-fail, blocks-fail, left_over, all_read}
use Rattle.decode.specs.Decode.{head_at, read_head, read_block, judged, workout_with}
use Rattle.decode.proofs.contents.Goals as goal

pub returns-in_err-head : goal.returns-in_err-head
unfolding head_at
returns-in_err-head c =
    let s = c.args.body.now in
    let w = c.in_err-head.field-0.0 in
    let p = err_from_is_err_and c.from_residual.result c.from_residual.ensures.1 in
    rw (p.1, p.2) (head-fails s w (refusal read_head s 3 w (sym c.read_head.ensures.value ∙ c.in_err-head.was)))

pub returns-in_err-steps : goal.returns-in_err-steps
unfolding head_at
returns-in_err-steps c =
    let s = c.args.body.now in
    let h = c.in_ok-head.head in
    let k = c.in_ok-head.at_steps.at in
    let head = given read_head s 3 h c.in_ok-head.at_steps (sym c.read_head.ensures.value ∙ c.in_ok-head.was) in
    let w = c.in_err-steps.field-0.0 in
    let p = err_from_is_err_and c.from_residual-in_err-steps.result c.from_residual-in_err-steps.ensures.1 in
    rw (p.1, p.2) (steps-fail s h k head w (list-refusal (read_many read_step h.steps) 12 no_step s k w (sym c.read_steps.ensures ∙ c.in_err-steps.was)))

pub returns-in_err-blocks : goal.returns-in_err-blocks
unfolding head_at
returns-in_err-blocks c =
    let s = c.args.body.now in
    let h = c.in_ok-head.head in
    let k = c.in_ok-head.at_steps.at in
    let head = given read_head s 3 h c.in_ok-head.at_steps (sym c.read_head.ensures.value ∙ c.in_ok-head.was) in
    let some = list-given (read_many read_step h.steps) 12 no_step s k c.in_ok-steps.steps c.in_ok-steps.at_blocks (sym c.read_steps.ensures ∙ c.in_ok-steps.was) in
    let j = c.in_ok-steps.at_blocks.at in
    let w = c.in_err-blocks.field-0.0 in
    let p = err_from_is_err_and c.from_residual-in_err-blocks.result c.from_residual-in_err-blocks.ensures.1 in
    rw (p.1, p.2) (blocks-fail s h k head some.list j some.reading w (list-refusal (read_many read_block h.blocks) 8 no_block s j w (sym c.read_blocks.ensures ∙ c.in_err-blocks.was)))

pub returns-then-end-body : goal.returns-then-end-body
unfolding head_at
returns-then-end-body c =
    let s = c.args.body.now in
    let h = c.in_ok-head.head in
    let k = c.in_ok-head.at_steps.at in
    let head = given read_head s 3 h c.in_ok-head.at_steps (sym c.read_head.ensures.value ∙ c.in_ok-head.was) in
    let some = list-given (read_many read_step h.steps) 12 no_step s k c.in_ok-steps.steps c.in_ok-steps.at_blocks (sym c.read_steps.ensures ∙ c.in_ok-steps.was) in
    let j = c.in_ok-steps.at_blocks.at in
    let last = list-given (read_many read_block h.blocks) 8 no_block s j c.in_ok-blocks.blocks c.in_ok-blocks.end (sym c.read_blocks.ensures ∙ c.in_ok-blocks.was) in
    let end = c.in_ok-blocks.end.at in
    left_over s h k head some.list j some.reading last.list end last.reading c.if-end-body.true

pub returns-in_err-validate : goal.returns-in_err-validate
unfolding head_at
returns-in_err-validate c =
    let s = c.args.body.now in
    let h = c.in_ok-head.head in
    let k = c.in_ok-head.at_steps.at in
    let head = given read_head s 3 h c.in_ok-head.at_steps (sym c.read_head.ensures.value ∙ c.in_ok-head.was) in
    let some = list-given (read_many read_step h.steps) 12 no_step s k c.in_ok-steps.steps c.in_ok-steps.at_blocks (sym c.read_steps.ensures ∙ c.in_ok-steps.was) in
    let j = c.in_ok-steps.at_blocks.at in
    let last = list-given (read_many read_block h.blocks) 8 no_block s j c.in_ok-blocks.blocks c.in_ok-blocks.end (sym c.read_blocks.ensures ∙ c.in_ok-blocks.was) in
    let end = c.in_ok-blocks.end.at in
    let p = err_from_is_err_and c.from_residual-in_err-validate.result c.from_residual-in_err-validate.ensures.1 in
    let w = workout_with h c.in_ok-steps.steps c.in_ok-blocks.blocks in
    rw (p.1, p.2)
    (sym (ap (judged w) (sym c.validate.ensures ∙ c.in_err-validate.was))
    ∙ ap₂ (λ (x : List Step) (y : List Block). judged (workout_with h x y) (valid_answer (workout_with h x y))) some.array-is last.array-is
    ∙ all_read s h k head some.list j some.reading last.list end last.reading c.if-end-body.false)

pub returns : goal.returns
unfolding head_at
returns c =
    let s = c.args.body.now in
    let h = c.in_ok-head.head in
    let k = c.in_ok-head.at_steps.at in
    let head = given read_head s 3 h c.in_ok-head.at_steps (sym c.read_head.ensures.value ∙ c.in_ok-head.was) in
    let some = list-given (read_many read_step h.steps) 12 no_step s k c.in_ok-steps.steps c.in_ok-steps.at_blocks (sym c.read_steps.ensures ∙ c.in_ok-steps.was) in
    let j = c.in_ok-steps.at_blocks.at in
    let last = list-given (read_many read_block h.blocks) 8 no_block s j c.in_ok-blocks.blocks c.in_ok-blocks.end (sym c.read_blocks.ensures ∙ c.in_ok-blocks.was) in
    let end = c.in_ok-blocks.end.at in
    let w = workout_with h c.in_ok-steps.steps c.in_ok-blocks.blocks in
    sym (ap (judged w) (sym c.validate.ensures ∙ c.in_ok-validate.was))
    ∙ ap₂ (λ (x : List Step) (y : List Block). judged (workout_with h x y) (valid_answer (workout_with h x y))) some.array-is last.array-is
    ∙ all_read s h k head some.list j some.reading last.list end last.reading c.if-end-body.false
