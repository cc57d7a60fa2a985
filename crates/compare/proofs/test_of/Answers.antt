-- `compare::test_of` gives the test of a number: one arm a kind, and the last kind past them.
use Rattle.common.proofs.Matches.{past, at_least}
use Rattle.compare.specs.Input.{test_kinds, test_of}
use Rattle.model.specs.declared.Test.TheVariants.{Ramp}
use Rattle.compare.proofs.test_of.Goals as goal

pub returns-in-0 : goal.returns-in-0
unfolding test_of
returns-in-0 c = rw c.in-0.is

pub returns-in-1 : goal.returns-in-1
unfolding test_of
returns-in-1 c = rw c.in-1.is

pub returns-in_default : goal.returns-in_default
unfolding test_of
returns-in_default c = past test_kinds c.args.kind Ramp (at_least 2 _ c.in_default.in_default-own.rest)
