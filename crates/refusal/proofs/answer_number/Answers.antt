-- `answer_number`: 0, or the refusal's.
use Rattle.refusal.proofs.answer_number.Goals as goal

pub returns-in-Err : goal.returns-in-Err
returns-in-Err c = simp (c.in-Err.is, c.number.ensures)
