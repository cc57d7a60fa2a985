-- `nothing_ridden`: nothing of a ride.
use Rattle.replay.proofs.nothing_ridden.Goals as goal

pub returns : goal.returns
returns c = simp (c.no_summary.ensures, c.empty.ensures)
