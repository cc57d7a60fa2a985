-- `ramp_target`: no ramp asks for 0 W.
use Rattle.measure.proofs.ramp_target.Goals as goal

pub returns-in-Some : goal.returns-in-Some
returns-in-Some c = simp (c.in-Some.is, c.watts.ensures)
