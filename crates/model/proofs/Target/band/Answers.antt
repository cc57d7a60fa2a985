-- `Target::band`: where a heart zone ends is at least 1, so 1 can be taken from it.
use Rattle.zones.proofs.Laws.{heart-next}
use Rattle.model.proofs.Target.band.Goals as goal

pub overflow_sub-range : goal.overflow_sub-range
overflow_sub-range c = rw c.heart_range-range.ensures (heart-next _ _)
