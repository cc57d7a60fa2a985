-- `length_of`: an open length's value is 0. The other returns are found.
use borrow.Author.Tests.{eq-eqb, ne_eqb}
use Rattle.steps.specs.Steps.{length_of}
use Rattle.steps.proofs.length_of.Goals as goal

pub returns-then-value-eq0 : goal.returns-then-value-eq0
unfolding length_of
returns-then-value-eq0 c = rw (c.in-2.is, eq-eqb _ _ c.if-value-eq0.true)

pub returns-else-value-eq0 : goal.returns-else-value-eq0
unfolding length_of
returns-else-value-eq0 c = rw (c.in-2.is, ne_eqb _ _ c.if-value-eq0.false)
