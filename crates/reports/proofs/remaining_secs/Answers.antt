-- `remaining_secs`: question 20, then the seconds.
use Rattle.reports.proofs.Laws.{report-fits}
use Rattle.reports.specs.Reports.{remaining_secs}
use mathlib.Core.Path.{sym, ◌∙◌}
use Rattle.reports.proofs.remaining_secs.Goals as goal

pub remaining-requires : goal.remaining-requires
remaining-requires c = report-fits c.args.player (sym c.is_standing.ensures ∙ c.if-is_standing.true)

pub returns-then-is_standing : goal.returns-then-is_standing
unfolding remaining_secs
returns-then-is_standing c = simp (sym c.is_standing.ensures ∙ c.if-is_standing.true, c.remaining.ensures)

pub returns : goal.returns
unfolding remaining_secs
returns c = simp (sym c.is_standing.ensures ∙ c.if-is_standing.false)
