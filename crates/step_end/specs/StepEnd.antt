-- player.rs: a step's last seconds, its end, and the step after it.
use Rattle.std.specs.Prelude.{◌≡◌, Bool, cond, not, ◌&&◌, List, [], ◌∷◌, ◌++◌, ℕ, ◌+◌, ◌-◌, ◌*◌, ◌≤◌, ltb, leb, Option, is_some}
use Rattle.std.specs.Option.{option_or}
use Rattle.zones.specs.declared.TrainingProfile.{TrainingProfile}
use Rattle.model.specs.declared.Length.{Length}
use Rattle.model.specs.declared.Length.TheVariants.{Time, Distance, Open}
use Rattle.model.specs.declared.Workout.{Workout}
use Rattle.model.specs.Target.{ramp_option}
use Rattle.order.specs.declared.Played.{Played}
use Rattle.order.specs.Order.{played_of, played_in}
use Rattle.power.specs.Power.{or_zero}
use Rattle.events.specs.Events.{Event, countdown, started, finished, ftp, events_if, Wrote}
use Rattle.state.specs.declared.Summary.{Summary}
use Rattle.state.specs.declared.Lap.{Lap}
use Rattle.state.specs.declared.Measured.{Measured}
use Rattle.state.specs.declared.StepNow.{StepNow}
use Rattle.state.specs.declared.Core.{Core}
use Rattle.state.specs.State.{duration_ms, distance_mm, fresh_lap, fresh_measured, SmallEnergy, step_now}
use Rattle.measure.specs.Measure.{result_of, ramp_failed}
use Rattle.step_end.specs.declared.Moved.{Moved}

-- What a call makes of the core, and its events.
pub record Outcome : Type 0 where
  pub core : Core
  pub events : List Event

-- player.rs, `COUNTDOWN_S`: the mark so many seconds before the end was passed, and the end was not.
abbrev pub due_at : ℕ → ℕ → ℕ → ℕ → Bool
due_at secs end before after = ltb before (end - secs * 1000) && leb (end - secs * 1000) after && ltb after end

abbrev pub countdown_at : ℕ → ℕ → ℕ → ℕ → List Event
countdown_at secs end before after = events_if (due_at secs end before after) (countdown secs)

-- Countdowns come 3, 2, 1.
unfoldable pub countdowns_to : ℕ → ℕ → ℕ → List Event
countdowns_to end before after = (countdown_at 3 end before after ++ countdown_at 2 end before after) ++ countdown_at 1 end before after

-- Of a timed step that had lasted `before`; other steps have none.
abbrev pub countdowns_of : Length → Lap → ℕ → List Event
countdowns_of (Time secs) lap before = countdowns_to (duration_ms secs lap) before lap.step_ms
countdowns_of (Distance metres) lap before = []
countdowns_of Open lap before = []

-- The step on now has come to its end: by time, by distance, or, in an open step, by a ramp that the rider can't hold.
abbrev pub over_by : Length → TrainingProfile → Core → Bool
over_by (Time secs) p c = leb (duration_ms secs c.lap) c.lap.step_ms
over_by (Distance metres) p c = leb (distance_mm metres c.lap) c.lap.step_mm
over_by Open p c = ramp_failed (ramp_option c.on.target p) c.lap.step_ms c.measured.ramp_low_ms

unfoldable pub is_over : TrainingProfile → Core → Bool
is_over p c = over_by c.on.length p c

-- The end of a step.

-- What was measured now, or before.
abbrev pub or_else : Option ℕ → Option ℕ → Option ℕ
or_else ftp before = option_or ftp before

abbrev pub step_after : Option Played → StepNow → StepNow
step_after found on = cond (is_some found) (step_now (played_in found)) on

-- "done + 1, skipped + 1 if marked", "in a `Test` step the result, if any, is kept"
abbrev pub ended_summary : Bool → Bool → Option ℕ → Summary → Summary
ended_summary last skipped result s =
    record {
      targeted_ms = s.targeted_ms;
      in_ms = s.in_ms;
      under_ms = s.under_ms;
      over_ms = s.over_ms;
      unread_ms = s.unread_ms;
      ftp = or_else result s.ftp;
      steps_done = s.steps_done + 1;
      steps = s.steps;
      skipped = s.skipped + cond skipped 1 0;
      finished = last;
    }

-- "A test stands on its own step." (document 02, d; sums and ring "run on across steps" in document 01, now `ramp_low_ms` alone.) At the
-- finish no step starts, and what was measured stays.
abbrev pub measured_after : Option Played → Measured → Measured
measured_after found m = cond (is_some found) (fresh_measured m.ramp_low_ms) m

-- The core after a step's end, with what was found at the next position.
unfoldable pub arrived : Option Played → Bool → Option ℕ → Core → Core
arrived found skipped result c =
    record {
      position = c.position + 1;
      steps = c.steps;
      total_ms = c.total_ms;
      total_mm = c.total_mm;
      lap = fresh_lap;
      measured = measured_after found c.measured;
      summary = ended_summary (not (is_some found)) skipped result c.summary;
      on = step_after found c.on;
      readings = c.readings;
      done = not (is_some found);
    }

-- "the result, if any, is kept with an FTP event"
abbrev pub ftp_events : Option ℕ → List Event
ftp_events result = events_if (is_some result) (ftp (or_zero result))

-- "started with the new position, or finished"
abbrev pub after_event : Bool → ℕ → Event
after_event found position = cond found (started position) finished

abbrev pub next_to : Option Played → Bool → Option ℕ → Core → Outcome
next_to found skipped result c =
    record {
      core = arrived found skipped result c;
      events = ftp_events result ++ (after_event (is_some found) (c.position + 1) ∷ []);
    }

-- player.rs, `next`: the step on now ends, skipped or not.
unfoldable pub next_of : Workout → Bool → Core → Outcome
next_of w skipped c =
    next_to (played_of w (c.position + 1)) skipped (result_of w.test c.on c.lap skipped c.measured) c

-- What the end of a step supposes: counts far from their types' limits, and test sums that are sums of 16-bit readings.
pub record NextFits (c : Core) : Type 0 where
  pub position : c.position ≤ 96
  pub done : c.summary.steps_done ≤ 96
  pub skipped : c.summary.skipped ≤ 96
  pub energy : SmallEnergy c.measured
  pub time : c.measured.test_ms ≤ 604800000

-- A call's answer is the outcome's core, and its events stand in the arrays.
pub record Moves (ks vs : List ℕ) (n : ℕ) (ks' vs' : List ℕ) (r : Moved) (o : Outcome) : Type 0 where
  pub core : r.core ≡ o.core
  pub wrote : Wrote ks vs n ks' vs' r.count o.events
