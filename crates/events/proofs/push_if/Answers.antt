-- `push_if`: without the event nothing is stored.
use Rattle.events.proofs.Laws.{wrote_none}
use Rattle.events.proofs.push_if.Goals as goal

pub returns-else-due : goal.returns-else-due
returns-else-due c = rw c.if-due.false (wrote_none _ _ _)
