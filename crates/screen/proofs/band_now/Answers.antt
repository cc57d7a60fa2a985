-- `band_now`: the step's band, and none once the workout is done.
use Rattle.screen.specs.Screen.{shown_band}
use Rattle.screen.proofs.band_now.Goals as goal

pub returns-then-core : goal.returns-then-core
unfolding shown_band
returns-then-core c = simp c.if-core.true

pub returns : goal.returns
unfolding shown_band
returns c = simp (c.if-core.false, c.band.ensures)
