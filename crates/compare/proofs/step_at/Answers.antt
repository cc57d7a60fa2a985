-- `compare::step_at` gives the step of seven words.
use Rattle.compare.specs.Input.{step_at}
use Rattle.compare.proofs.step_at.Goals as goal

pub returns : goal.returns
unfolding step_at
returns c = simp (c.intensity_of.ensures, c.word_at.ensures, c.length_of.ensures, c.word_at-2.ensures, c.word_at-3.ensures, c.target_at.ensures, c.empty.ensures)
