-- `decode::test_of` meets its contract: each kind stands at its number in the table.
use Rattle.std.specs.Prelude.{None}
use lib.ListN.{get_or-eq_default}
use mathlib.Core.Path.{sym}
use native.Mathlib.Omega.{arith}
use Rattle.decode.specs.Decode.{test_of, test_kinds}
use Rattle.decode.proofs.test_of.Goals as goal

pub returns-in-0 : goal.returns-in-0
unfolding test_of
returns-in-0 c = rw c.in-0.is

pub returns-in-1 : goal.returns-in-1
unfolding test_of
returns-in-1 c = rw c.in-1.is

pub returns-in-2 : goal.returns-in-2
unfolding test_of
returns-in-2 c = rw c.in-2.is

pub returns-in_default : goal.returns-in_default
unfolding test_of
returns-in_default c = sym (get_or-eq_default test_kinds None {n = c.args.kind} (omega arith))
