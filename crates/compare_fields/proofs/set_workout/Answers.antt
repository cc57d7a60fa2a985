-- `compare_fields::set_workout` sets one of the workout's counts.
use Rattle.common.proofs.Matches.{past, at_least}
use Rattle.compare_fields.specs.Fields.{first_workout, last_workout, set_workout}
use Rattle.compare_fields.proofs.set_workout.Goals as goal

pub returns-in-0 : goal.returns-in-0
unfolding set_workout
returns-in-0 c = rw (c.in-0.is, c.low8.ensures)

pub returns-in_default : goal.returns-in_default
unfolding set_workout
returns-in_default c = let a = c.args in rw c.low8-in_default.ensures (past (first_workout a.workout a.value) a.at (last_workout a.workout a.value) (at_least 1 _ c.in_default.in_default-own.rest))
