-- `in_numbers`: each number.
use Rattle.console.proofs.in_numbers.Goals as goal

pub returns : goal.returns
returns c = simp (c.act_number.ensures, c.answer_number.ensures)
