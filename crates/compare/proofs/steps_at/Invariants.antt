-- `compare::steps_at` fills the array with the steps. The invariant: the first i places are filled.
use mathlib.Core.Path.{◌≡◌}
use Rattle.compare.proofs.Places.{filled}
use Rattle.compare.specs.Input.{step_at}
use Rattle.model.specs.Workout.{no_step}
use Rattle.compare.proofs.steps_at.Given as goal

abbrev pub invariant-loop-i : goal.invariant-loop-i
invariant-loop-i l = l.steps ≡ filled (step_at l.input) 3 7 12 no_step l.i
