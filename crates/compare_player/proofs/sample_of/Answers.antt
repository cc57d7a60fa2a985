-- `compare_player::sample_of` takes the three readings of a call.
use Rattle.compare_player.proofs.sample_of.Goals as goal

pub returns : goal.returns
returns c = simp (c.reading_from.ensures, c.reading_from-2.ensures, c.reading_from-3.ensures)
