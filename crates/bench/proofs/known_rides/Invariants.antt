-- `known_rides`: the player stands, and what is left to ride gives what all of it does.
use mathlib.Core.Path.{◌≡◌}
use Prim.Native.Nat.{◌-◌}
use Rattle.bench.specs.Rides.{begun_of, rides_of}
use mathlib.Core.Bool.{true}
use Rattle.standing.specs.Standing.{standing_of}
use Rattle.bench.proofs.known_rides.Given as goal

abbrev pub invariant-loop : goal.invariant-loop
invariant-loop l = (rides_of (l.n - l.counter) l.player ≡ rides_of l.n (begun_of l.file)) × (standing_of l.player ≡ true)
