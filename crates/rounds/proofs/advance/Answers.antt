-- `advance`: tallies, lap and test numbers are those of the callees.
use Rattle.rounds.specs.Rounds.{riding, advanced, with_part, ridden_lap}
use Rattle.measure.specs.Measure.{Meter}
use mathlib.Core.Path.{ap}
use Rattle.rounds.proofs.advance.Goals as goal

pub returns : goal.returns
unfolding advanced
returns c = let a = c.args in (
  simp (c.tally-tallied.ensures, c.compliance.ensures, c.band-band.ensures)
      (ap (λ (m : Meter). riding (with_part (ridden_lap a.ms a.mm a.core.lap) m a.ms a.profile a.core) m.watts) c.measure-after.ensures.0),
  c.measure-after.ensures.1,
)
