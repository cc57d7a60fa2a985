-- `readout`: each test's running number.
use Rattle.screen.specs.Screen.{readout_by}
use Rattle.screen.proofs.readout.Goals as goal

pub returns-in-None : goal.returns-in-None
unfolding readout_by
returns-in-None c = simp c.in-None.is

pub returns-in-Twenty : goal.returns-in-Twenty
unfolding readout_by
returns-in-Twenty c = simp (c.in-Twenty.is, c.average_readout.ensures)

pub returns-in-Ramp : goal.returns-in-Ramp
unfolding readout_by
returns-in-Ramp c = simp (c.in-Ramp.is, c.minute_readout.ensures)
