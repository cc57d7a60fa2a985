-- `readout_now`: the running number in a test step that isn't done.
use Rattle.screen.specs.Screen.{shown_readout}
use Rattle.screen.proofs.readout_now.Goals as goal

pub returns-then-core : goal.returns-then-core
unfolding shown_readout
returns-then-core c = simp c.if-core.true

pub returns : goal.returns
unfolding shown_readout
returns c = simp (c.if-core.false, c.readout.ensures, c.test_in.ensures)
