-- `push_seconds`: what is left to push gives the same minute.
use Rattle.measure.specs.Measure.{minute_of, pushes}
use lib.ListN.{length}
use Prim.Native.Nat.{◌-◌, ◌≤◌, ◌<◌}
use mathlib.Core.Path.{◌≡◌}
use Rattle.measure.proofs.push_seconds.Given as goal

abbrev pub invariant-loop : goal.invariant-loop
invariant-loop l = (pushes 60 (l.count - l.counter) l.watts (minute_of l.r l.minute) ≡ pushes 60 l.count l.watts (minute_of l.initial.r l.initial.minute)) × (l.r.minute_at < 60) × (length l.minute ≡ 60) × (l.counter ≤ l.count)

abbrev pub decreases-loop : goal.decreases-loop
decreases-loop l = l.count - l.counter
