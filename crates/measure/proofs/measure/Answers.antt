-- `measure`: one case for each test; the ramp's numbers are those of its callees.
use Rattle.measure.proofs.Laws.{ramp-energy}
use Rattle.state.specs.State.{SmallEnergy}
use Rattle.measure.specs.Measure.{Meter, meter, measured_of}
use mathlib.Core.Path.{sym, subst, ◌∙◌}
use Rattle.measure.proofs.measure.Goals as goal

pub returns-in-None : goal.returns-in-None
unfolding measured_of
returns-in-None c = (simp (sym c.test_in.ensures ∙ c.in-None.is), c.requires.0.energy)

pub returns-in-Twenty : goal.returns-in-Twenty
unfolding measured_of
returns-in-Twenty c = (simp (sym c.test_in.ensures ∙ c.in-Twenty.is, c.twenty.ensures.0, c.unwrap_or-watts.ensures), c.twenty.ensures.1)

pub returns-in-Ramp : goal.returns-in-Ramp
unfolding measured_of
returns-in-Ramp c = (
  simp (sym c.test_in.ensures ∙ c.in-Ramp.is)
      (simp (c.low_after-low.ensures, c.watts.ensures, c.ramp_target-goal.ensures, c.ramp.ensures, c.unwrap_or-watts.ensures) at c.ramp_part.ensures),
  subst (λ (m : Meter). SmallEnergy m.measured) (sym c.ramp_part.ensures) (ramp-energy _ _ _ (meter c.args.measured c.args.minute.now) c.requires.0.energy),
)
