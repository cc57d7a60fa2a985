-- `remaining_in`: what is left of the step on now, with the steps ahead.
use Rattle.screen.proofs.remaining_in.Goals as goal

pub returns-in-Time : goal.returns-in-Time
returns-in-Time c = simp (c.in-Time.is, c.seconds_up.ensures.0, c.left_ms.ensures.0)
