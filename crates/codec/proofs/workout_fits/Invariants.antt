-- `workout_fits`: the steps so far have been asked.
use lib.ListN.{take}
use Rattle.codec.specs.Typed.{StepFits, AllFit}
use Rattle.codec.proofs.workout_fits.Given as goal

abbrev pub invariant-loop-step : goal.invariant-loop-step
invariant-loop-step l = AllFit StepFits (take l.step-index l.step-items)
