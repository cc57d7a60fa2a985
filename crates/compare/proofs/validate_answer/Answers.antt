-- `compare::validate_answer` gives the check of a workout, from what its callees ensure.
use Rattle.compare.specs.Answers.{validate_answer}
use Rattle.compare.proofs.validate_answer.Goals as goal

pub returns : goal.returns
unfolding validate_answer
returns c = simp (c.four_words.ensures, c.refused_number.ensures, c.validate.ensures, c.workout_at.ensures)
