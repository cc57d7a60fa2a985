-- `summary`: question 20, then the summary.
use Rattle.reports.specs.Reports.{summary_of}
use mathlib.Core.Path.{sym, ◌∙◌}
use Rattle.reports.proofs.summary.Goals as goal

pub returns-then-is_standing : goal.returns-then-is_standing
unfolding summary_of
returns-then-is_standing c = simp (sym c.is_standing.ensures ∙ c.if-is_standing.true)

pub returns : goal.returns
unfolding summary_of
returns c = simp (sym c.is_standing.ensures ∙ c.if-is_standing.false, c.no_summary.ensures)
