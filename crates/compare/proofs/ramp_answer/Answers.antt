-- `compare::ramp_answer` gives a target's ramp, from what its callees ensure.
use Rattle.compare.specs.Answers.{ramp_answer}
use Rattle.compare.proofs.ramp_answer.Goals as goal

pub returns : goal.returns
unfolding ramp_answer
returns c = simp (c.ramp_word.ensures, c.ramp.ensures, c.profile_at.ensures, c.target_at.ensures)
