-- `on_place`: the position, or the last step's once done.
use Rattle.standing.specs.Standing.{on_place}
use Rattle.standing.proofs.on_place.Goals as goal

pub returns-then-core-eq0 : goal.returns-then-core-eq0
unfolding on_place
returns-then-core-eq0 c = simp (c.if-core.true, c.if-core-eq0.true)

pub returns-then-core : goal.returns-then-core
unfolding on_place
returns-then-core c = simp c.if-core.true

pub returns : goal.returns
unfolding on_place
returns c = simp c.if-core.false
