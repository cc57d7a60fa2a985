-- `vectors::counted` counts an answer, and a difference where there is one.
use Rattle.vectors.proofs.counted.Goals as goal

pub returns-then-same : goal.returns-then-same
returns-then-same c = simp (c.if-same.true, c.one_more.ensures)

pub returns-else-same : goal.returns-else-same
returns-else-same c = simp (c.if-same.false, c.one_more-else-same-2.ensures, c.one_more-else-same.ensures)
