-- `compare::steps_at` fills the array with the steps. The invariant: the first i places are filled.
use mathlib.Core.Path.{◌≡◌, ◌∙◌, refl, ap}
use native.Mathlib.Omega.{arith}
use Rattle.compare.proofs.Places.{filled, filled_next, filled-all}
use Rattle.compare.specs.Input.{step_at, at_places}
use Rattle.model.specs.Workout.{no_step}
use Rattle.compare.proofs.steps_at.Goals as goal

pub loop-i-init : goal.loop-i-init
unfolding at_places
loop-i-init c = refl

pub loop-i-preserved : goal.loop-i-preserved
loop-i-preserved c = let a = c.args in let at = c.loop-i in
    rw (c.step_at-step.ensures, at.invariant) (filled_next (step_at a.input.now) 3 7 12 no_step at.i (omega arith))

pub returns : goal.returns
returns c = let a = c.args in let at = c.loop-i in
    let e : at.i ≡ a.count = omega arith in
    at.invariant ∙ ap (filled (step_at a.input.now) 3 7 12 no_step) e ∙ filled-all (step_at a.input.now) 3 7 12 no_step a.count
