-- `compare_fields::set_measured` sets one of the tests' numbers.
use Rattle.common.proofs.Matches.{past, at_least}
use Rattle.compare_fields.specs.Fields.{first_measured, last_measured, set_measured}
use Rattle.compare_fields.proofs.set_measured.Goals as goal

pub returns-in-0 : goal.returns-in-0
unfolding set_measured
returns-in-0 c = rw c.in-0.is

pub returns-in-1 : goal.returns-in-1
unfolding set_measured
returns-in-1 c = rw c.in-1.is

pub returns-in-2 : goal.returns-in-2
unfolding set_measured
returns-in-2 c = rw c.in-2.is

pub returns-in-3 : goal.returns-in-3
unfolding set_measured
returns-in-3 c = rw c.in-3.is

pub returns-in-4 : goal.returns-in-4
unfolding set_measured
returns-in-4 c = rw (c.in-4.is, c.low8-number.ensures)

pub returns-in-5 : goal.returns-in-5
unfolding set_measured
returns-in-5 c = rw (c.in-5.is, c.low8-number-in-5.ensures)

pub returns-in_default : goal.returns-in_default
unfolding set_measured
returns-in_default c = let a = c.args in rw c.low16.ensures (past (first_measured a.measured a.value) a.at (last_measured a.measured a.value) (at_least 6 _ c.in_default.in_default-own.rest))
