-- `is_over`: one case for each length.
use Rattle.step_end.specs.StepEnd.{is_over}
use Rattle.step_end.proofs.is_over.Goals as goal

pub returns-in-Time : goal.returns-in-Time
unfolding is_over
returns-in-Time c = simp (c.in-Time.is, c.duration_ms.ensures)

pub returns-in-Distance : goal.returns-in-Distance
unfolding is_over
returns-in-Distance c = simp (c.in-Distance.is, c.distance_mm.ensures)

pub returns-in-Open : goal.returns-in-Open
unfolding is_over
returns-in-Open c = simp (c.in-Open.is, c.ramp_failed.ensures, c.ramp.ensures)
