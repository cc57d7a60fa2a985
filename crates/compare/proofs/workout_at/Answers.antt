-- `compare::workout_at` gives the workout of the input: its counts, steps, blocks and test, each by its callee.
use Rattle.compare.specs.Input.{workout_at}
use Rattle.compare.proofs.workout_at.Goals as goal

pub returns : goal.returns
unfolding workout_at
returns c = simp (c.test_of.ensures, c.word_at.ensures, c.empty.ensures, c.blocks_at-blocks.ensures, c.steps_at-steps.ensures, c.count_at-block_count.ensures.0, c.count_at-step_count.ensures.0)
