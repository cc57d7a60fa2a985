-- What the functions of a round suppose and give.
use Rattle.std.specs.Prelude.{◌≡◌, false, List, ℕ, ◌+◌, ◌-◌, ◌*◌, ◌≤◌, ◌<◌, length}
use Rattle.zones.specs.declared.TrainingProfile.{TrainingProfile}
use Rattle.model.specs.declared.Test.{Test}
use Rattle.model.specs.declared.Workout.{Workout}
use Rattle.order.specs.Order.{played_len}
use Rattle.events.specs.Events.{Wrote}
use Rattle.state.specs.declared.Core.{Core}
use Rattle.state.specs.declared.Part.{Part}
use Rattle.state.specs.State.{TallyFits, SmallEnergy, until_end}
use Rattle.measure.specs.Measure.{MeasureFits}
use Rattle.step_end.specs.StepEnd.{Outcome, countdowns_of}
use Rattle.standing.specs.Facts.{Stands}
use Rattle.rounds.specs.declared.Ride.{Ride}
use Rattle.rounds.specs.Rounds.{riding, riding_of, advanced, round_of, rounds, is_stopped}

-- No sum of a part passes its limit.
pub record AdvanceFits (c : Core) (ms mm : ℕ) : Type 0 where
  pub tally : TallyFits c.summary ms
  pub measure : MeasureFits c.measured (c.lap.step_ms + ms) ms
  pub way : c.lap.step_mm + mm ≤ 7000000000

-- What a ride on its way supposes: a core that stands but for what is left, which is within question 12's limits, and places for
-- its events, of which there are at most 2 for each step that is still to end and 1 more.
pub record Rides (w : Workout) (s : Ride) (ks vs : ℕ) : Type 0 where
  pub stands : Stands s.ms.0 s.mm.0 w s.core
  pub ms : s.ms.0 ≤ 86400000
  pub mm : s.mm.0 ≤ 1000000000
  pub parts : s.parts ≤ 97
  pub kinds : is_stopped s.core.done s.ms.0 ≡ false → s.count + 2 * (played_len w - s.core.position) + 1 ≤ ks
  pub values : is_stopped s.core.done s.ms.0 ≡ false → s.count + 2 * (played_len w - s.core.position) + 1 ≤ vs

abbrev pub part_of : Ride → Part
part_of s = until_end s.core s.ms.0 s.mm.0

-- What the part until the step's end supposes: time and way within question 12's limits, no sum that passes its own, and places for
-- the last seconds' events.
pub record TurnFits (s : Ride) (ks vs : ℕ) : Type 0 where
  pub left-ms : s.ms.0 ≤ 86400000
  pub left_mm : s.mm.0 ≤ 1000000000
  pub advance : AdvanceFits s.core (part_of s).ms.0 (part_of s).mm.0
  pub ms : (part_of s).ms.0 ≤ s.ms.0
  pub mm : (part_of s).mm.0 ≤ s.mm.0
  pub parts : s.parts < 97
  pub kinds : s.count + 3 ≤ ks
  pub values : s.count + 3 ≤ vs

-- The ride after that part. The bound is of a sum of 16-bit readings.
pub record Turned (test : Test) (p : TrainingProfile) (m m' ks vs ks' vs' : List ℕ) (s r : Ride) : Type 0 where
  pub riding_is : riding r.core m' ≡ advanced test p (part_of s).ms.0 (part_of s).mm.0 (riding s.core m)
  pub ms : r.ms.0 ≡ s.ms.0 - (part_of s).ms.0
  pub mm : r.mm.0 ≡ s.mm.0 - (part_of s).mm.0
  pub parts : r.parts ≡ s.parts + 1
  pub wrote : Wrote ks vs s.count ks' vs' r.count (countdowns_of r.core.on.length r.core.lap s.core.lap.step_ms)
  pub energy : SmallEnergy r.core.measured

-- The ride after a step's end.
pub record Ended (ks vs ks' vs' : List ℕ) (s r : Ride) (o : Outcome) : Type 0 where
  pub core : r.core ≡ o.core
  pub ms : r.ms ≡ s.ms
  pub mm : r.mm ≡ s.mm
  pub parts : r.parts ≡ s.parts
  pub wrote : Wrote ks vs s.count ks' vs' r.count o.events

-- The ride after one round of it. The bound is of the part, before its step's end.
pub record Round (w : Workout) (p : TrainingProfile) (m m' ks vs ks' vs' : List ℕ) (s r : Ride) : Type 0 where
  pub riding_is : riding r.core m' ≡ riding_of (round_of w p (part_of s) (riding s.core m))
  pub ms : r.ms.0 ≡ s.ms.0 - (part_of s).ms.0
  pub mm : r.mm.0 ≡ s.mm.0 - (part_of s).mm.0
  pub parts : r.parts ≡ s.parts + (round_of w p (part_of s) (riding s.core m)).parts
  pub wrote : Wrote ks vs s.count ks' vs' r.count (round_of w p (part_of s) (riding s.core m)).events
  pub energy : SmallEnergy (advanced w.test p (part_of s).ms.0 (part_of s).mm.0 (riding s.core m)).core.measured

-- The ride after the loop. The minute still has its 60 places.
pub record Ridden (w : Workout) (p : TrainingProfile) (m m' ks vs ks' vs' : List ℕ) (s r : Ride) : Type 0 where
  pub riding_is : riding r.core m' ≡ riding_of (rounds w p 97 s.ms.0 s.mm.0 (riding s.core m))
  pub parts : r.parts ≡ s.parts + (rounds w p 97 s.ms.0 s.mm.0 (riding s.core m)).parts
  pub wrote : Wrote ks vs s.count ks' vs' r.count (rounds w p 97 s.ms.0 s.mm.0 (riding s.core m)).events
  pub sixty : length m' ≡ 60
