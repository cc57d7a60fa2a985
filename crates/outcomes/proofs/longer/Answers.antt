-- `longer`: the lap changes, nothing else.
use Rattle.outcomes.proofs.longer.Goals as goal

pub returns : goal.returns
returns c = simp c.extended-more.ensures
