-- `compare::order_answer` gives the playing order, from what its callees ensure.
use Rattle.compare.specs.Answers.{order_answer}
use Rattle.compare.proofs.order_answer.Goals as goal

pub returns : goal.returns
unfolding order_answer
returns c = simp (c.order_word.ensures, c.workout_at.ensures)
