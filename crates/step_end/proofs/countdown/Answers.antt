-- `countdown`: only a timed step counts down.
use Rattle.events.proofs.Laws.{wrote_none}
use Rattle.step_end.proofs.countdown.Goals as goal

pub returns-in-Time : goal.returns-in-Time
returns-in-Time c = rw c.in-Time.is (rw c.duration_ms.ensures at c.countdown_to.ensures)

pub returns-in-Distance : goal.returns-in-Distance
returns-in-Distance c = rw c.in-Distance.is (wrote_none _ _ _)

pub returns-in-Open : goal.returns-in-Open
returns-in-Open c = rw c.in-Open.is (wrote_none _ _ _)
