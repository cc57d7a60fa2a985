-- `class_workout`: the step at place 0, and unused places.
use Rattle.class.proofs.class_workout.Goals as goal

pub returns : goal.returns
returns c = simp (c.empty-2.ensures, c.empty.ensures)
