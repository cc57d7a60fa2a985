-- `vectors::replay_all` takes as many steps as the list has bytes. The invariant: as many steps as turns are taken.
use mathlib.Core.Path.{◌∙◌, refl, ap}
use native.Mathlib.Omega.{arith}
use Rattle.vectors.proofs.Laws.{steps_next_lem}
use Rattle.vectors.specs.Replays.{step_of, steps, replay_of}
use Rattle.vectors.proofs.replay_all.Goals as goal

pub loop-init : goal.loop-init
unfolding steps
loop-init c = refl

pub loop-preserved : goal.loop-preserved
loop-preserved c = c.step-s.ensures ∙ ap (step_of _ _) c.loop.invariant ∙ steps_next_lem _ _ _

pub returns : goal.returns
unfolding replay_of
returns c = c.loop.invariant ∙ ap (steps _ _) (omega arith)
