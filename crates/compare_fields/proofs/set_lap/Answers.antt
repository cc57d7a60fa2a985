-- `compare_fields::set_lap` sets one of the step's amounts.
use Rattle.common.proofs.Matches.{past, at_least}
use Rattle.compare_fields.specs.Fields.{first_lap, last_lap, set_lap}
use Rattle.compare_fields.proofs.set_lap.Goals as goal

pub returns-in-0 : goal.returns-in-0
unfolding set_lap
returns-in-0 c = rw c.in-0.is

pub returns-in-1 : goal.returns-in-1
unfolding set_lap
returns-in-1 c = rw c.in-1.is

pub returns-in-2 : goal.returns-in-2
unfolding set_lap
returns-in-2 c = rw (c.in-2.is, c.low32.ensures)

pub returns-in_default : goal.returns-in_default
unfolding set_lap
returns-in_default c = let a = c.args in rw c.low32-in_default.ensures (past (first_lap a.lap a.value) a.at (last_lap a.lap a.value) (at_least 3 _ c.in_default.in_default-own.rest))
