-- `asked_grants`: the watts of the first i grants, each of 16 bits.
use mathlib.Core.Path.{◌≡◌}
use Prim.Native.Nat.{◌*◌, ◌≤◌}
use Rattle.bench.specs.Grants.{watts_total}
use Rattle.bench.proofs.asked_grants.Given as goal

abbrev pub invariant-loop-i : goal.invariant-loop-i
invariant-loop-i l = (l.total ≡ watts_total l.i l.bikes) × (l.total ≤ 65535 * l.i)
