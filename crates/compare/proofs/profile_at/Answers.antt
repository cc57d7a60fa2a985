-- `compare::profile_at` gives the profile of the first two words.
use Rattle.compare.specs.Input.{profile_at}
use Rattle.compare.proofs.profile_at.Goals as goal

pub returns : goal.returns
unfolding profile_at
returns c = simp (c.u16_at-2.ensures, c.u16_at.ensures)
