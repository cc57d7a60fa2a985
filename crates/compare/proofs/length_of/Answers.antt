-- `compare::length_of` gives the length of a kind and a value: one arm a kind, and the last kind past them.
use Rattle.common.proofs.Matches.{past, at_least}
use Rattle.compare.specs.Input.{length_kinds, length_of}
use Rattle.model.specs.declared.Length.TheVariants.{Open}
use Rattle.compare.proofs.length_of.Goals as goal

pub returns-in-0 : goal.returns-in-0
unfolding length_of
returns-in-0 c = rw c.in-0.is

pub returns-in-1 : goal.returns-in-1
unfolding length_of
returns-in-1 c = rw c.in-1.is

pub returns-in_default : goal.returns-in_default
unfolding length_of
returns-in_default c = let a = c.args in past (length_kinds a.value) a.kind Open (at_least 2 _ c.in_default.in_default-own.rest)
