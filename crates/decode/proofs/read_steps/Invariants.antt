-- `decode::read_steps`: the array holds the steps read so far, and the rest is still to be read.
use Rattle.steps.specs.Steps.{read_step}
use Rattle.model.specs.Workout.{no_step}
use Rattle.cursor.proofs.Many.{Progress}
use Rattle.decode.proofs.read_steps.Given as goal

abbrev pub invariant-loop-i : goal.invariant-loop-i
invariant-loop-i l = Progress read_step l.bytes l.n l.fn.cursor.at 12 no_step l.i l.at.at l.steps
