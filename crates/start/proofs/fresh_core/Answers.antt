-- `fresh_core`: the first step on, all amounts 0.
use Rattle.start.proofs.fresh_core.Goals as goal

pub returns : goal.returns
returns c = simp (c.no_readings.ensures, c.step_now.ensures, c.no_summary.ensures, c.fresh_measured.ensures)
