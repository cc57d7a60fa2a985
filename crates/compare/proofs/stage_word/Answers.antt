-- `compare::stage_word` gives a stage and watts of a ramp.
use Rattle.compare.proofs.stage_word.Goals as goal

pub returns : goal.returns
returns c = simp (c.four_words.ensures, c.watts.ensures, c.stage_watts.ensures, c.stage.ensures)
