-- `compare_player::extended_turn`: the answer as its number.
use Rattle.compare_player.proofs.extended_turn.Goals as goal

pub returns : goal.returns
returns c = simp c.refused_number.ensures
