-- `compare_records::test_by` gives the test of a number, none past the last.
use mathlib.Core.List.{[], ◌∷◌}
use Rattle.common.proofs.Matches.{past, at_least}
use Rattle.model.specs.declared.Test.TheVariants as tests
use Rattle.compare_records.specs.Records.{test_by}
use Rattle.compare_records.proofs.test_by.Goals as goal

pub returns-in-0 : goal.returns-in-0
unfolding test_by
returns-in-0 c = rw c.in-0.is

pub returns-in-1 : goal.returns-in-1
unfolding test_by
returns-in-1 c = rw c.in-1.is

pub returns-in-2 : goal.returns-in-2
unfolding test_by
returns-in-2 c = rw c.in-2.is

pub returns-in_default : goal.returns-in_default
unfolding test_by
returns-in_default c = past (tests.None ∷ tests.Twenty ∷ tests.Ramp ∷ []) c.args.word tests.None (at_least 3 _ c.in_default.in_default-own.rest)
