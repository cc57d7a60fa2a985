-- `is_sample`: the flags, and each absent reading.
use Rattle.sheet.specs.Sheet.{sample_ok}
use Rattle.sheet.proofs.is_sample.Goals as goal

pub returns : goal.returns
unfolding sample_ok
returns c = simp (c.is_absent_ok-3.ensures, c.is_set-3.ensures, c.is_absent_ok-2.ensures, c.is_set-2.ensures, c.is_absent_ok.ensures, c.is_set.ensures, c.get_u16-flags.ensures, c.get_u16-cadence.ensures, c.get_u16-heart.ensures, c.get_u16-power.ensures)
