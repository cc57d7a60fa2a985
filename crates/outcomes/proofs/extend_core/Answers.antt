-- `extend_core`: within the limit, or refused.
use Rattle.outcomes.specs.Outcomes.{extend_core}
use Rattle.outcomes.proofs.Laws.{within, past}
use Rattle.outcomes.proofs.extend_core.Goals as goal

pub returns-then-secs-lap : goal.returns-then-secs-lap
unfolding extend_core
returns-then-secs-lap c = simp (c.in-Time.is, within _ _ _ c.requires.extra-s c.if-secs-lap.true, c.longer.ensures)

pub returns-then-metres-lap : goal.returns-then-metres-lap
unfolding extend_core
returns-then-metres-lap c = simp (c.in-Distance.is, within _ _ _ c.requires.extra-m c.if-metres-lap.true, c.longer-then-metres-lap.ensures)

pub returns-else-secs-lap : goal.returns-else-secs-lap
unfolding extend_core
returns-else-secs-lap c = simp (c.in-Time.is, past _ _ _ c.requires.extra-s c.if-secs-lap.false, c.core_as_before.ensures)

pub returns-else-metres-lap : goal.returns-else-metres-lap
unfolding extend_core
returns-else-metres-lap c = simp (c.in-Distance.is, past _ _ _ c.requires.extra-m c.if-metres-lap.false, c.core_as_before-in-Distance.ensures)

pub returns-in-Open : goal.returns-in-Open
unfolding extend_core
returns-in-Open c = simp (c.in-Open.is, c.core_as_before-in-Open.ensures)
