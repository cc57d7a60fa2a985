-- `result`: one case for each test.
use Rattle.measure.specs.Measure.{result_of}
use mathlib.Core.Path.{sym, ◌∙◌}
use Rattle.measure.proofs.result.Goals as goal

pub returns-then-skipped : goal.returns-then-skipped
unfolding result_of
returns-then-skipped c = simp (sym c.test_in.ensures ∙ c.in-Twenty.is, c.if-skipped.true)

pub returns-in-None : goal.returns-in-None
unfolding result_of
returns-in-None c = simp (sym c.test_in.ensures ∙ c.in-None.is)

pub returns-else-skipped : goal.returns-else-skipped
unfolding result_of
returns-else-skipped c = simp (sym c.test_in.ensures ∙ c.in-Twenty.is, c.if-skipped.false, c.twenty_result.ensures)

pub returns-in-Ramp : goal.returns-in-Ramp
unfolding result_of
returns-in-Ramp c = simp (sym c.test_in.ensures ∙ c.in-Ramp.is, c.ramp_result.ensures)
