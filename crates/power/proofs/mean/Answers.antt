-- `mean`: one case for each count; each quotient has 16 bits.
use Rattle.std.specs.Prelude.{Some}
use Rattle.power.specs.Power.{mean_by}
use native.Mathlib.Omega.{arith}
use mathlib.Core.Path.{◌≡◌, ap}
use Rattle.power.proofs.mean.Goals as goal

pub returns-then-count-eq3 : goal.returns-then-count-eq3
unfolding mean_by
returns-then-count-eq3 c = rw c.if-count-eq3.true

pub returns-then-count-eq2 : goal.returns-then-count-eq2
unfolding mean_by
returns-then-count-eq2 c = rw c.if-count-eq2.true

pub returns-then-count-eq1 : goal.returns-then-count-eq1
unfolding mean_by
returns-then-count-eq1 c = rw c.if-count-eq1.true (ap Some (omega arith))

pub returns : goal.returns
unfolding mean_by
returns c = let none : c.args.count ≡ 0 = omega arith in rw none
