-- `low_after`: one case for each answer of the average.
use borrow.Author.Tests.{le-leb, lt-leb}
use Rattle.measure.proofs.low_after.Goals as goal

pub returns-then-target-watts : goal.returns-then-target-watts
returns-then-target-watts c = simp (c.in-Some.is, le-leb _ _ c.if-target-watts.true)

pub returns-else-target-watts : goal.returns-else-target-watts
returns-else-target-watts c = simp (c.in-Some.is, lt-leb _ _ c.if-target-watts.false)
