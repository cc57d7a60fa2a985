-- `event_places`: question 20, then the number.
use Rattle.reports.proofs.Laws.{report-fits}
use Rattle.reports.specs.Reports.{places_of}
use mathlib.Core.Path.{sym, ◌∙◌}
use Rattle.reports.proofs.event_places.Goals as goal

pub event_places-requires : goal.event_places-requires
event_places-requires c = (report-fits c.args.player (sym c.is_standing.ensures ∙ c.if-is_standing.true)).steps

pub returns-then-is_standing : goal.returns-then-is_standing
unfolding places_of
returns-then-is_standing c = simp (sym c.is_standing.ensures ∙ c.if-is_standing.true, c.event_places.ensures)

pub returns : goal.returns
unfolding places_of
returns c = simp (sym c.is_standing.ensures ∙ c.if-is_standing.false)
