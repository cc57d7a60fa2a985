-- `check`: question 5 decides, or else `validate` does.
use mathlib.Core.Path.{sym, ◌∙◌}
use Rattle.validation.specs.Sound.{workout_answer}
use Rattle.validation.proofs.check.Goals as goal

pub returns-then-well_formed : goal.returns-then-well_formed
unfolding workout_answer
returns-then-well_formed c = simp (c.validate.ensures, sym c.well_formed-2.ensures ∙ c.if-well_formed.true)

pub returns : goal.returns
unfolding workout_answer
returns c = simp (sym c.well_formed-2.ensures ∙ c.if-well_formed.false)
