-- `compare::heart_range_answer` gives a heart zone's range, from what its callees ensure.
use Rattle.compare.specs.Answers.{heart_range_answer}
use Rattle.compare.proofs.heart_range_answer.Goals as goal

pub returns : goal.returns
unfolding heart_range_answer
returns c = simp (c.range_word.ensures, c.heart_range.ensures, c.u8_at.ensures, c.profile_at.ensures)
