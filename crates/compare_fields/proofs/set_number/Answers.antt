-- `compare_fields::set_number` sets one of the core's own numbers.
use Rattle.common.proofs.Matches.{past, at_least}
use Rattle.compare_fields.specs.Fields.{first_number, last_number, set_number}
use Rattle.compare_fields.proofs.set_number.Goals as goal

pub returns-in-0 : goal.returns-in-0
unfolding set_number
returns-in-0 c = rw c.in-0.is

pub returns-in-1 : goal.returns-in-1
unfolding set_number
returns-in-1 c = rw c.in-1.is

pub returns-in-2 : goal.returns-in-2
unfolding set_number
returns-in-2 c = rw c.in-2.is

pub returns-in-3 : goal.returns-in-3
unfolding set_number
returns-in-3 c = rw c.in-3.is

pub returns-in_default : goal.returns-in_default
unfolding set_number
returns-in_default c = let a = c.args in past (first_number a.core a.value) a.at (last_number a.core a.value) (at_least 4 _ c.in_default.in_default-own.rest)
