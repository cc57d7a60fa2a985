-- `next_now`: the step after the one on now, if there is one.
use Rattle.screen.specs.Screen.{shown_next}
use Rattle.screen.proofs.next_now.Goals as goal

pub returns-then-core : goal.returns-then-core
unfolding shown_next
returns-then-core c = simp c.if-core.true

pub returns : goal.returns
unfolding shown_next
returns c = simp (c.if-core.false, c.played_at.ensures)
