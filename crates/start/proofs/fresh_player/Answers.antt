-- `fresh_player`: nothing ridden, the first step on.
use Rattle.start.specs.Start.{fresh}
use Rattle.start.proofs.fresh_player.Goals as goal

pub returns : goal.returns
unfolding fresh
returns c = simp (c.fresh_core.ensures, c.played_len.ensures, c.unwrap_or-first.ensures, c.played_at.ensures)
