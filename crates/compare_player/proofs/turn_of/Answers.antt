-- `compare_player::turn_of` puts an update's answer into words.
use Rattle.compare_player.proofs.turn_of.Goals as goal

pub returns : goal.returns
returns c = simp c.refused_number.ensures
