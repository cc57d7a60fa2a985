-- `compare_fields::set_core` sets a field of one of the core's groups.
use Rattle.common.proofs.Matches.{past, at_least}
use Rattle.compare_fields.specs.Fields.{first_core, last_core, set_core}
use Rattle.compare_fields.proofs.set_core.Goals as goal

pub returns-in-0 : goal.returns-in-0
unfolding set_core
returns-in-0 c = rw (c.in-0.is, c.set_number.ensures)

pub returns-in-1 : goal.returns-in-1
unfolding set_core
returns-in-1 c = rw (c.in-1.is, c.set_lap-set.ensures)

pub returns-in-2 : goal.returns-in-2
unfolding set_core
returns-in-2 c = rw (c.in-2.is, c.set_measured-set.ensures)

pub returns-in-3 : goal.returns-in-3
unfolding set_core
returns-in-3 c = rw (c.in-3.is, c.set_summary-set.ensures)

pub returns-in-4 : goal.returns-in-4
unfolding set_core
returns-in-4 c = rw (c.in-4.is, c.set_on-set.ensures)

pub returns-in_default : goal.returns-in_default
unfolding set_core
returns-in_default c = let a = c.args in rw c.set_readings-set.ensures (past (first_core a.core a.at a.value) a.group (last_core a.core a.at a.value) (at_least 5 _ c.in_default.in_default-own.rest))
