-- `sample_at`: three readings by their flags.
use Rattle.sheet.proofs.sample_at.Goals as goal

pub returns : goal.returns
returns c = simp (c.then_some-3.ensures, c.is_set-3.ensures, c.then_some-2.ensures, c.is_set-2.ensures, c.then_some.ensures, c.is_set.ensures, c.get_u16-flags.ensures, c.get_u16-cadence.ensures, c.get_u16-heart.ensures, c.get_u16-power.ensures)
