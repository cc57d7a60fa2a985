-- `profile_at`: two numbers.
use Rattle.sheet.proofs.profile_at.Goals as goal

pub returns : goal.returns
returns c = simp (c.get_u16-2.ensures, c.get_u16.ensures)
