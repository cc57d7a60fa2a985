-- `player_of`: the note is the one looked up.
use Rattle.outcomes.proofs.player_of.Goals as goal

pub returns : goal.returns
returns c = simp c.note_at-note.ensures
