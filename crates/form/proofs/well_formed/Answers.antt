-- `well_formed`: its five tests are question 5's.
use Rattle.form.specs.Form.{form_ok}
use Rattle.form.proofs.well_formed.Goals as goal

pub returns : goal.returns
unfolding form_ok
returns c = simp (c.check.ensures, c.step_slots.ensures, c.block_slots.ensures)
