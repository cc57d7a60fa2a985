-- player.rs: a part of an update, and the loop of `add`, round by round.
use Rattle.std.specs.Prelude.{Bool, false, cond, ◌||◌, List, [], ◌++◌, ℕ, zero, suc, ◌+◌, ◌-◌, ◌/◌, eqb}
use Rattle.zones.specs.declared.TrainingProfile.{TrainingProfile}
use Rattle.model.specs.declared.Test.{Test}
use Rattle.model.specs.declared.Workout.{Workout}
use Rattle.model.specs.Target.{band_of}
use Rattle.readings.specs.declared.ComplianceOption.{ComplianceOption}
use Rattle.readings.specs.Readings.{compliance_of}
use Rattle.events.specs.Events.{Event}
use Rattle.state.specs.declared.Lap.{Lap}
use Rattle.state.specs.declared.Core.{Core}
use Rattle.state.specs.declared.Part.{Part}
use Rattle.state.specs.State.{tallied, until_end}
use Rattle.measure.specs.Measure.{Meter, meter, measured_of}
use Rattle.step_end.specs.StepEnd.{Outcome, countdowns_of, is_over, next_of}

-- The core and the minute's watts.
pub record Riding : Type 0 where
  pub core : Core
  pub watts : List ℕ

abbrev pub riding : Core → List ℕ → Riding
riding core watts = record { core = core; watts = watts }

-- What riding gives: the core, the minute's watts, the events, and the rounds that rode.
pub record Rode : Type 0 where
  pub core : Core
  pub watts : List ℕ
  pub events : List Event
  pub parts : ℕ

abbrev pub riding_of : Rode → Riding
riding_of r = riding r.core r.watts

-- A part of an update.

-- Compliance goes by the band at the part's start.
abbrev pub compliance_now : TrainingProfile → Core → ComplianceOption
compliance_now p c = compliance_of c.on.target (band_of c.on.target p (c.lap.step_ms / 1000)) p c.readings

abbrev pub ridden_lap : ℕ → ℕ → Lap → Lap
ridden_lap ms mm lap =
    record {
      step_ms = lap.step_ms + ms;
      step_mm = lap.step_mm + mm;
      extra_s = lap.extra_s;
      extra_m = lap.extra_m;
    }

abbrev pub meter_after : Test → TrainingProfile → ℕ → Riding → Meter
meter_after test p ms s =
    measured_of test s.core.on s.core.readings p (s.core.lap.step_ms + ms) ms (meter s.core.measured s.watts)

-- The core with a part's lap, test numbers and tallies.
abbrev pub with_part : Lap → Meter → ℕ → TrainingProfile → Core → Core
with_part lap m ms p c =
    record {
      position = c.position;
      steps = c.steps;
      total_ms = c.total_ms;
      total_mm = c.total_mm;
      lap = lap;
      measured = m.measured;
      summary = tallied (compliance_now p c) ms c.summary;
      on = c.on;
      readings = c.readings;
      done = c.done;
    }

-- player.rs, `account`, but for the step's last seconds and its end.
unfoldable pub advanced : Test → TrainingProfile → ℕ → ℕ → Riding → Riding
advanced test p ms mm s =
    record {
      core = with_part (ridden_lap ms mm s.core.lap) (meter_after test p ms s) ms p s.core;
      watts = (meter_after test p ms s).watts;
    }

-- The end of the step on now, if it has come.
abbrev pub closed_by : Bool → Workout → Core → Outcome
closed_by over w c = cond over (next_of w false c) (record { core = c; events = [] })

unfoldable pub closed : Workout → TrainingProfile → Core → Outcome
closed w p c = closed_by (is_over p c) w c

-- The part, once it is ridden: what had been ridden of the step before tells which of its last seconds were passed.
abbrev pub accounted : Workout → TrainingProfile → ℕ → Riding → Rode
accounted w p before s =
    record {
      core = (closed w p s.core).core;
      watts = s.watts;
      events = countdowns_of s.core.on.length s.core.lap before ++ (closed w p s.core).events;
      parts = 1;
    }

abbrev pub stays : Riding → Rode
stays s = record { core = s.core; watts = s.watts; events = []; parts = 0 }

-- player.rs, `ride_part`: nothing happens in a part of no time.
unfoldable pub round_of : Workout → TrainingProfile → Part → Riding → Rode
round_of w p part s =
    cond (eqb part.ms.0 0) (stays s)
    (accounted w p s.core.lap.step_ms (advanced w.test p part.ms.0 part.mm.0 s))

-- The loop.

-- The workout is done, or the update is used up.
abbrev pub is_stopped : Bool → ℕ → Bool
is_stopped done ms = done || eqb ms 0

-- "Answers carry the parts made, which are the rounds of that loop that ride; one left at its start is none."
abbrev pub joined : Rode → Rode → Rode
joined r rest =
    record {
      core = rest.core;
      watts = rest.watts;
      events = r.events ++ rest.events;
      parts = r.parts + rest.parts;
    }

-- "the loop of `add` without its `read`", of at most so many rounds, with some time and way still to ride
unfoldable pub rounds : Workout → TrainingProfile → ℕ → ℕ → ℕ → Riding → Rode
rounds w p zero ms mm s = stays s
rounds w p (suc n) ms mm s =
    let part : Part = until_end s.core ms mm in
    let r : Rode = joined (round_of w p part s) (rounds w p n (ms - part.ms.0) (mm - part.mm.0) (riding_of (round_of w p part s))) in
    cond (is_stopped s.core.done ms) (stays s) r
