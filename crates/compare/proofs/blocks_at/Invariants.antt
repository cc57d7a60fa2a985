-- `compare::blocks_at` fills the array with the blocks. The invariant: the first i places are filled.
use mathlib.Core.Path.{◌≡◌}
use Rattle.compare.proofs.Places.{filled}
use Rattle.compare.specs.Input.{block_at}
use Rattle.model.specs.Workout.{no_block}
use Rattle.compare.proofs.blocks_at.Given as goal

abbrev pub invariant-loop-i : goal.invariant-loop-i
invariant-loop-i l = l.blocks ≡ filled (block_at l.input) l.place 3 8 no_block l.i
