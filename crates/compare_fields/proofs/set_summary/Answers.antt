-- `compare_fields::set_summary` sets one of the summary's numbers.
use Rattle.common.proofs.Matches.{past, at_least}
use Rattle.compare_fields.specs.Fields.{first_summary, last_summary, set_summary}
use Rattle.compare_fields.proofs.set_summary.Goals as goal

pub returns-in-0 : goal.returns-in-0
unfolding set_summary
returns-in-0 c = rw c.in-0.is

pub returns-in-1 : goal.returns-in-1
unfolding set_summary
returns-in-1 c = rw c.in-1.is

pub returns-in-2 : goal.returns-in-2
unfolding set_summary
returns-in-2 c = rw c.in-2.is

pub returns-in-3 : goal.returns-in-3
unfolding set_summary
returns-in-3 c = rw c.in-3.is

pub returns-in-4 : goal.returns-in-4
unfolding set_summary
returns-in-4 c = rw (c.in-4.is, c.low16.ensures)

pub returns-in-5 : goal.returns-in-5
unfolding set_summary
returns-in-5 c = rw (c.in-5.is, c.low16-in-5.ensures)

pub returns-in-6 : goal.returns-in-6
unfolding set_summary
returns-in-6 c = rw (c.in-6.is, c.low16-in-6.ensures)

pub returns-in-7 : goal.returns-in-7
unfolding set_summary
returns-in-7 c = rw c.in-7.is

pub returns-in-8 : goal.returns-in-8
unfolding set_summary
returns-in-8 c = rw c.in-8.is

pub returns-in_default : goal.returns-in_default
unfolding set_summary
returns-in_default c = let a = c.args in rw c.low16-in_default.ensures (past (first_summary a.summary a.value) a.at (last_summary a.summary a.value) (at_least 9 _ c.in_default.in_default-own.rest))
