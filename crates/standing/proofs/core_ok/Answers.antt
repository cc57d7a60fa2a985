-- `core_ok`: the totals are asked first, so that no sum or product below wraps.
use Rattle.standing.specs.Standing.{core_ok}
use mathlib.Core.Path.{sym, ◌∙◌}
use Rattle.standing.proofs.core_ok.Goals as goal

pub returns-then-not-totals_ok : goal.returns-then-not-totals_ok
unfolding core_ok
returns-then-not-totals_ok c = simp (sym c.totals_ok.ensures ∙ c.if-not-totals_ok.true)

pub returns-then-core-le604800000 : goal.returns-then-core-le604800000
unfolding core_ok
returns-then-core-le604800000 c = simp (sym c.totals_ok.ensures ∙ c.if-not-totals_ok.false, c.readings_ok.ensures, c.measured_ok.ensures, c.tallies_ok.ensures, c.lap_ok.ensures, c.counts_ok.ensures)
