-- `compare::power_range_answer` gives a power zone's range, from what its callees ensure.
use Rattle.compare.specs.Answers.{power_range_answer}
use Rattle.compare.proofs.power_range_answer.Goals as goal

pub returns : goal.returns
unfolding power_range_answer
returns c = simp (c.range_word.ensures, c.power_range.ensures, c.u8_at.ensures, c.profile_at.ensures)
