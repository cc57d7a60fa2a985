-- `compare::band_answer` gives a target's band, from what its callees ensure.
use Rattle.compare.specs.Answers.{band_answer}
use Rattle.compare.proofs.band_answer.Goals as goal

pub returns : goal.returns
unfolding band_answer
returns c = simp (c.band_word.ensures, c.band.ensures, c.word_at.ensures, c.profile_at.ensures, c.target_at.ensures)
