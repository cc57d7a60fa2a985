-- `decode::read_steps`: the array holds the steps read so far, and the rest is still to be read.
use native.Mathlib.Omega.{arith}
use mathlib.Core.Path.{sym, ap, ◌∙◌}
use Rattle.std.proofs.lemmas.Result.{err_from_is_err_and}
use Rattle.steps.specs.Steps.{read_step, step_at}
use Rattle.model.specs.Workout.{no_step}
use Rattle.cursor.proofs.Answers.{given, refusal}
use Rattle.cursor.proofs.Many.{progress_start, progress_step, progress-stop, progress-end}
use Rattle.decode.proofs.Parts.{filled-read}
use Rattle.decode.specs.Decode.{filled_by}
use Rattle.decode.proofs.read_steps.Goals as goal

pub loop-i-init : goal.loop-i-init
loop-i-init c = let a = c.args in progress_start read_step a.bytes.now a.n a.cursor.at 12 no_step

pub returns-in_err-step : goal.returns-in_err-step
unfolding step_at
returns-in_err-step c = let a = c.args in
    let s = a.bytes.now in
    let l = c.loop-i in
    let r = c.in_err-step.field-0.0 in
    let p = err_from_is_err_and c.from_residual.result c.from_residual.ensures.1 in
    rw (p.1, p.2) (ap (filled_by 12 no_step a.cursor.at) (progress-stop read_step s a.n a.cursor.at 12 no_step l.i l.at.at l.steps l.invariant r (omega arith)
    (refusal read_step s l.at.at r (sym c.read_step.ensures ∙ c.in_err-step.was))))

pub loop-i-preserved : goal.loop-i-preserved
unfolding step_at
loop-i-preserved c = let a = c.args in
    let s = a.bytes.now in
    let l = c.loop-i in
    let x = c.in_ok-step.step in
    let next = c.in_ok-step.next in
    let g = given read_step s l.at.at x next (sym c.read_step.ensures ∙ c.in_ok-step.was) in
    rw g.after (progress_step read_step s a.n a.cursor.at 12 no_step l.i l.at.at l.steps l.invariant x g.size (omega arith) (omega arith) g.reads)

pub returns : goal.returns
returns c = let a = c.args in
    let s = a.bytes.now in
    let l = c.loop-i in
    let p = l.invariant in
    filled-read 12 a.cursor.at l.at.at l.i no_step l.steps p.done p.used p.count p.filled p.place
    ∙ ap (filled_by 12 no_step a.cursor.at) (progress-end read_step s a.n a.cursor.at 12 no_step l.i l.at.at l.steps p (omega arith))
