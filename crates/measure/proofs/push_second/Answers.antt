-- `push_second`: the watts, the place, the length and the best minute are the definition's.
use Rattle.measure.specs.Measure.{pushed}
use Rattle.measure.proofs.push_second.Goals as goal

pub returns : goal.returns
unfolding pushed
returns c = simp (c.best_after-best_minute.ensures, c.one_more-len.ensures)
