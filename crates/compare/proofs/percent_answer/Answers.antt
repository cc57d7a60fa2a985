-- `compare::percent_answer` gives a percentage, from what its callees ensure.
use Rattle.compare.specs.Answers.{percent_answer}
use Rattle.compare.proofs.percent_answer.Goals as goal

pub returns : goal.returns
unfolding percent_answer
returns c = simp (c.percent_word.ensures, c.percent.ensures.0, c.u8_at.ensures, c.u16_at.ensures)
