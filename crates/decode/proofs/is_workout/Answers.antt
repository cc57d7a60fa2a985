-- `decode::is_workout` meets its contract: both bytes are asked.
use Rattle.decode.proofs.is_workout.Goals as goal

pub returns : goal.returns
returns c = simp (c.byte_or_0.ensures, c.byte_or_0-2.ensures)
