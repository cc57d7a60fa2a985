-- `compare::stage_answer` gives a ramp's stage, from what its callees ensure.
use Rattle.compare.specs.Answers.{stage_answer}
use Rattle.compare.proofs.stage_answer.Goals as goal

pub returns : goal.returns
unfolding stage_answer
returns c = simp (c.stage_word.ensures, c.word_at-2.ensures, c.word_at.ensures, c.ramp_at.ensures)
