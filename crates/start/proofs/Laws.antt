-- The empty workout plays nothing, so that a player of it can be made.
use mathlib.Core.Path.{◌≡◌, refl}
use Rattle.common.specs.Lists.{sum}
use Rattle.model.specs.Workout.{empty_workout}
use Rattle.blocks.specs.Blocks.{repeats}
use Rattle.order.specs.Order.{played_len}

pub empty-plays : played_len empty_workout ≡ 0
unfolding played_len empty_workout repeats sum
empty-plays = refl
