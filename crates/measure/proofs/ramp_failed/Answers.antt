-- `ramp_failed`: no ramp never fails.
use Rattle.measure.proofs.ramp_failed.Goals as goal

pub returns-in-Some : goal.returns-in-Some
returns-in-Some c = simp c.in-Some.is
