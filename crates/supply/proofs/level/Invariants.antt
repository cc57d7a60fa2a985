-- `level`: the low end is borne, the high end isn't, and the gap halves.
use Prim.Native.Nat.{◌-◌, ◌≤◌, ◌<◌}
use Rattle.common.specs.Lists.{sum}
use Rattle.supply.specs.Supply.{at_level}
use Rattle.supply.proofs.level.Given as goal

abbrev pub invariant-loop-high : goal.invariant-loop-high
invariant-loop-high l =
    (l.low < l.high) × (l.high ≤ l.supply) × (sum (at_level l.low l.wants) ≤ l.supply) × (l.supply < sum (at_level l.high l.wants))

abbrev pub decreases-loop-high : goal.decreases-loop-high
decreases-loop-high l = l.high - l.low
