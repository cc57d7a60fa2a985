-- `compare::blocks_at` fills the array with the blocks. The invariant: the first i places are filled.
use mathlib.Core.Path.{◌≡◌, ◌∙◌, refl, ap}
use native.Mathlib.Omega.{arith}
use Rattle.compare.proofs.Places.{filled, filled_next, filled-all}
use Rattle.compare.specs.Input.{block_at, at_places}
use Rattle.model.specs.Workout.{no_block}
use Rattle.compare.proofs.blocks_at.Goals as goal

pub loop-i-init : goal.loop-i-init
unfolding at_places
loop-i-init c = refl

pub loop-i-preserved : goal.loop-i-preserved
loop-i-preserved c = let a = c.args in let at = c.loop-i in
    rw (c.block_at-block.ensures, at.invariant) (filled_next (block_at a.input.now) a.place 3 8 no_block at.i (omega arith))

pub returns : goal.returns
returns c = let a = c.args in let at = c.loop-i in
    let e : at.i ≡ a.count = omega arith in
    at.invariant ∙ ap (filled (block_at a.input.now) a.place 3 8 no_block) e ∙ filled-all (block_at a.input.now) a.place 3 8 no_block a.count
