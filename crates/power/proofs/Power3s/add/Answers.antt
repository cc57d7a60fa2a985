-- `Power3s::add`: the reading takes the place of the oldest.
use Rattle.power.specs.Power.{added}
use Rattle.power.proofs.Power3s.add.Goals as goal

pub returns : goal.returns
unfolding added
returns c = simp (c.unwrap_or-value.ensures, c.is_some-present.ensures)
