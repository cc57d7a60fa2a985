-- `minute_readout`: the best minute of a `Ramp` test so far.
use Rattle.screen.proofs.minute_readout.Goals as goal

pub returns-in-Some : goal.returns-in-Some
returns-in-Some c = simp c.in-Some.is
