-- model.rs: the parts of a workout that are used, what stands in the places that are not, and the empty workout.
use Rattle.std.specs.Prelude.{List, take, replicate}
use Rattle.names.specs.Names.{empty_name}
use Rattle.model.specs.declared.Step.{Step}
use Rattle.model.specs.declared.Block.{Block}
use Rattle.model.specs.declared.Workout.{Workout}
use Rattle.model.specs.declared.Intensity.TheVariants.{Work}
use Rattle.model.specs.declared.Length.TheVariants.{Open}
use Rattle.model.specs.declared.Target.TheVariants.{Free}
use Rattle.model.specs.declared.Test.TheVariants as tests

-- `NO_STEP`
abbrev pub no_step : Step
no_step = record { intensity = Work; length = Open; target = Free; note = empty_name }

-- `NO_BLOCK`
abbrev pub no_block : Block
no_block = record { first = 0; len = 0; count = 0 }

-- model.rs, `steps()`: the first `step_count` places
abbrev pub steps_of : Workout → List Step
steps_of w = take w.step_count w.steps

-- model.rs, `blocks()`: the first `block_count` places
abbrev pub blocks_of : Workout → List Block
blocks_of w = take w.block_count w.blocks

-- "the empty workout (no name, steps, blocks or test)"
unfoldable pub empty_workout : Workout
empty_workout =
    record {
      name = empty_name;
      steps = replicate 12 no_step;
      step_count = 0;
      blocks = replicate 8 no_block;
      block_count = 0;
      test = tests.None;
    }
