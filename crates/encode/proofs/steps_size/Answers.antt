-- `encode::steps_size` meets its contract: the bytes of the steps so far.
use lib.ListN.{length, take, length-append, get_or}
use native.Mathlib.Omega.{arith}
use mathlib.Core.List.{flat_map}
use mathlib.Core.Path.{◌∙◌, ap}
use Rattle.steps.specs.Bytes.{step_bytes}
use Rattle.encode.proofs.Sizes.{blank_step, note-fits}
use Rattle.encode.proofs.Many.{flat-next}
use Rattle.encode.proofs.steps_size.Goals as goal

pub loop-step-init : goal.loop-step-init
unfolding flat_map
loop-step-init c = (omega arith, omega arith)

pub step_size-size-requires : goal.step_size-size-requires
step_size-size-requires c =
    let a = c.args in
    let p = c.requires in
    note-fits (take a.n a.steps) c.loop-step.step-index _ c.loop-step-test.true p.1

pub loop-step-preserved : goal.loop-step-preserved
loop-step-preserved c =
    let a = c.args in
    let i = c.loop-step.step-index in
    let steps = take a.n a.steps in (
      omega (arith, c.step_size-size.ensures.0, ap length (flat-next step_bytes steps i blank_step c.loop-step-test.true) ∙ length-append (flat_map step_bytes (take i steps)) (step_bytes (get_or steps i blank_step))),
      omega arith,
    )
