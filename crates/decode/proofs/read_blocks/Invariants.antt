-- `decode::read_blocks`: the array holds the blocks read so far, and the rest is still to be read.
use Rattle.decode.specs.Decode.{read_block}
use Rattle.model.specs.Workout.{no_block}
use Rattle.cursor.proofs.Many.{Progress}
use Rattle.decode.proofs.read_blocks.Given as goal

abbrev pub invariant-loop-i : goal.invariant-loop-i
invariant-loop-i l = Progress read_block l.bytes l.n l.fn.cursor.at 8 no_block l.i l.at.at l.blocks
