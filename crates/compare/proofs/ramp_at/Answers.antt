-- `compare::ramp_at` gives the ramp of the first three words.
use Rattle.compare.specs.Input.{ramp_at}
use Rattle.compare.proofs.ramp_at.Goals as goal

pub returns : goal.returns
unfolding ramp_at
returns c = simp (c.u16_at-3.ensures, c.u16_at-2.ensures, c.u16_at.ensures)
