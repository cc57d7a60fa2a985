-- `step_ok`: its length, and its target, which may be a ramp in an open step only.
use Rattle.validation.specs.Sound.{step_ok}
use Rattle.validation.proofs.step_ok.Goals as goal

pub returns : goal.returns
unfolding step_ok
returns c = simp (c.target_ok.ensures, c.is_open.ensures, c.length_ok.ensures)
