-- `ramp_result`: 75 % of the best minute.
use Rattle.measure.proofs.ramp_result.Goals as goal

pub returns-in-Some : goal.returns-in-Some
returns-in-Some c = simp (c.in-Some.is, c.kept_ftp.ensures)
