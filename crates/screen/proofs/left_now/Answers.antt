-- `left_now`: by the step's kind of length; an open step has nothing left to show.
use Rattle.screen.specs.Screen.{shown_of}
use Rattle.screen.proofs.left_now.Goals as goal

pub returns-in-Time : goal.returns-in-Time
unfolding shown_of
returns-in-Time c = simp (c.in-Time.is, c.shown_time.ensures)

pub returns-in-Distance : goal.returns-in-Distance
unfolding shown_of
returns-in-Distance c = simp (c.in-Distance.is, c.shown_distance.ensures)

pub returns-in-Open : goal.returns-in-Open
unfolding shown_of
returns-in-Open c = simp c.in-Open.is
