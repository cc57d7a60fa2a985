-- `now`: questions 20 and 10, then what is shown.
use Rattle.reports.proofs.Laws.{report-fits}
use Rattle.reports.specs.Reports.{now_of}
use mathlib.Core.Path.{sym, ◌∙◌}
use Rattle.reports.proofs.now.Goals as goal

pub now_in-requires : goal.now_in-requires
now_in-requires c = report-fits c.args.player (sym c.is_standing.ensures ∙ c.if-is_standing.true)

pub returns-in-Ok : goal.returns-in-Ok
unfolding now_of
returns-in-Ok c = simp (sym c.is_standing.ensures ∙ c.if-is_standing.true, sym c.check-answer.ensures ∙ c.in-Ok.is, c.now_in.ensures)

pub returns-in-Err : goal.returns-in-Err
unfolding now_of
returns-in-Err c = simp (sym c.is_standing.ensures ∙ c.if-is_standing.true, sym c.check-answer.ensures ∙ c.in-Err.is, c.no_now.ensures)

pub returns : goal.returns
unfolding now_of
returns c = simp (sym c.is_standing.ensures ∙ c.if-is_standing.false, c.no_now-2.ensures)
