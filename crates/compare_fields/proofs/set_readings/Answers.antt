-- `compare_fields::set_readings` sets one of the last readings, the average's place, or one of its places.
use Rattle.common.proofs.Matches.{past, at_least}
use Rattle.compare_fields.specs.Fields.{first_readings, last_readings, set_readings}
use Rattle.compare_fields.proofs.set_readings.Goals as goal

pub returns-in-0 : goal.returns-in-0
unfolding set_readings
returns-in-0 c = rw (c.in-0.is, c.low16.ensures)

pub returns-in-1 : goal.returns-in-1
unfolding set_readings
returns-in-1 c = rw (c.in-1.is, c.low8-place.ensures)

pub returns-in-2 : goal.returns-in-2
unfolding set_readings
returns-in-2 c = rw (c.in-2.is, c.low16-in-2.ensures)

pub returns-in-3 : goal.returns-in-3
unfolding set_readings
returns-in-3 c = rw (c.in-3.is, c.low16-in-3.ensures)

pub returns-in_default : goal.returns-in_default
unfolding set_readings
returns-in_default c = let a = c.args in rw c.set_place-set.ensures (past (first_readings a.readings a.value) a.at (last_readings a.readings a.at a.value) (at_least 4 _ c.in_default.in_default-own.rest))
