-- `distance_step`: question 20, then the step's kind of length.
use Rattle.reports.specs.Reports.{distance_of}
use mathlib.Core.Path.{sym, ◌∙◌}
use Rattle.reports.proofs.distance_step.Goals as goal

pub returns-then-is_standing : goal.returns-then-is_standing
unfolding distance_of
returns-then-is_standing c = simp (sym c.is_standing.ensures ∙ c.if-is_standing.true, c.is_distance.ensures)

pub returns : goal.returns
unfolding distance_of
returns c = simp (sym c.is_standing.ensures ∙ c.if-is_standing.false)
