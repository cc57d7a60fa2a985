-- `compare_fields::set_on` sets something of the step on now.
use Rattle.common.proofs.Matches.{past, at_least}
use Rattle.compare_fields.specs.Fields.{first_on, last_on, set_on}
use Rattle.compare_fields.proofs.set_on.Goals as goal

pub returns-in-0 : goal.returns-in-0
unfolding set_on
returns-in-0 c = rw (c.in-0.is, c.low8.ensures)

pub returns-in-1 : goal.returns-in-1
unfolding set_on
returns-in-1 c = rw (c.in-1.is, c.low8-in-1.ensures)

pub returns-in-2 : goal.returns-in-2
unfolding set_on
returns-in-2 c = rw (c.in-2.is, c.low8-in-2.ensures)

pub returns-in-3 : goal.returns-in-3
unfolding set_on
returns-in-3 c = rw (c.in-3.is, c.low16.ensures)

pub returns-in-4 : goal.returns-in-4
unfolding set_on
returns-in-4 c = rw (c.in-4.is, c.low32.ensures)

pub returns-in-5 : goal.returns-in-5
unfolding set_on
returns-in-5 c = rw c.in-5.is

pub returns-in-6 : goal.returns-in-6
unfolding set_on
returns-in-6 c = rw c.in-6.is

pub returns-in_default : goal.returns-in_default
unfolding set_on
returns-in_default c = let a = c.args in rw c.low8-in_default.ensures (past (first_on a.on a.value) a.at (last_on a.on a.value) (at_least 7 _ c.in_default.in_default-own.rest))
