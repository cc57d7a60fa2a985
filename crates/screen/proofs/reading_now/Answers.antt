-- `reading_now`: the reading that the band is checked by.
use Rattle.screen.proofs.reading_now.Goals as goal

pub returns-in-None : goal.returns-in-None
returns-in-None c = simp (c.in-None.is, c.watts.ensures)

pub returns-in-Some : goal.returns-in-Some
returns-in-Some c = simp (c.in-Some.is, c.reading.ensures)
