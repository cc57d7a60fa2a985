-- Document 01's ride, `add` and skip once nothing is left to be asked: what each gives, and what it supposes.
use Rattle.std.specs.Prelude.{Bool, true, cond, ℕ, ◌+◌, ◌≤◌, eqb, Ok}
use Rattle.zones.specs.declared.TrainingProfile.{TrainingProfile}
use Rattle.model.specs.declared.Workout.{Workout}
use Rattle.readings.specs.declared.Sample.{Sample}
use Rattle.state.specs.declared.Core.{Core}
use Rattle.state.specs.declared.Player.{Player}
use Rattle.state.specs.State.{event_places, read_core}
use Rattle.step_end.specs.StepEnd.{Outcome, next_of}
use Rattle.rounds.specs.declared.Ride.{Ride}
use Rattle.rounds.specs.Rounds.{riding, Rode, riding_of, rounds}
use Rattle.standing.specs.Facts.{Stands}
use Rattle.outcomes.specs.Outcomes.{Called, eventless, player_of, with_core, totalled}

-- Ride.

-- A ride at its start, with all of it still to be ridden.
abbrev pub begun : Core → ℕ → ℕ → Ride
begun c ms mm = record { core = totalled ms mm c; ms = record { 0 = ms }; mm = record { 0 = mm }; count = 0; parts = 0 }

abbrev pub rode_to : Workout → Rode → Called
rode_to w r = record { answer = (Ok tt); player = player_of w (riding_of r); events = r.events; parts = r.parts }

-- "Then 0 ms does nothing at all"
abbrev pub ride_by : Bool → Player → Rode → Called
ride_by idle p r = cond idle (eventless (Ok tt) p) (rode_to p.workout r)

unfoldable pub ride_now : Player → ℕ → ℕ → TrainingProfile → Called
ride_now p ms mm f = ride_by (eqb ms 0) p (rounds p.workout f 97 ms mm (riding (totalled ms mm p.core) p.minute))

-- Add: read, then ride.

unfoldable pub add_now : Player → ℕ → ℕ → Sample → TrainingProfile → Called
add_now p ms mm sample f = cond (eqb ms 0) (eventless (Ok tt) p) (ride_now (with_core (read_core sample p.core) p) ms mm f)

-- Skip.

abbrev pub skip_to : Player → Outcome → Called
skip_to p o = record { answer = (Ok tt); player = player_of p.workout (riding o.core p.minute); events = o.events; parts = 0 }

unfoldable pub skip_now : Player → Called
skip_now p = cond p.core.done (eventless (Ok tt) p) (skip_to p (next_of p.workout true p.core))

-- What the functions below the calls suppose: a core that stands, and what the questions passed.
pub record Supposes (w : Workout) (c : Core) (ms mm kinds values : ℕ) : Type 0 where
  pub stands : Stands 0 0 w c
  pub ms_in : ms ≤ 86400000
  pub mm_in : mm ≤ 1000000000
  pub total-ms : c.total_ms.0 + ms ≤ 604800000
  pub total-mm : c.total_mm.0 + mm ≤ 7000000000
  pub kinds_in : event_places c ≤ kinds
  pub values_in : event_places c ≤ values
