-- `compare::target_of` gives the target of a kind and its values: one arm a kind, and the last kind past them.
use Rattle.common.proofs.Matches.{past, at_least}
use Rattle.compare.specs.Input.{target_kinds, target_of}
use Rattle.compare.proofs.target_of.Goals as goal

pub returns-in-0 : goal.returns-in-0
unfolding target_of
returns-in-0 c = rw c.in-0.is

pub returns-in-1 : goal.returns-in-1
unfolding target_of
returns-in-1 c = rw c.in-1.is

pub returns-in-2 : goal.returns-in-2
unfolding target_of
returns-in-2 c = rw c.in-2.is

pub returns-in-3 : goal.returns-in-3
unfolding target_of
returns-in-3 c = rw c.in-3.is

pub returns-in-4 : goal.returns-in-4
unfolding target_of
returns-in-4 c = rw c.in-4.is

pub returns-in-5 : goal.returns-in-5
unfolding target_of
returns-in-5 c = rw c.in-5.is

pub returns-in-6 : goal.returns-in-6
unfolding target_of
returns-in-6 c = rw c.in-6.is

pub returns-in_default : goal.returns-in_default
unfolding target_of
returns-in_default c = let a = c.args in past (target_kinds a.a a.b a.c) a.kind _ (at_least 7 _ c.in_default.in_default-own.rest)
