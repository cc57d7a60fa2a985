-- player.rs: what a screen shows of a player.
use Rattle.std.specs.Prelude.{Bool, true, false, cond, ◌||◌, ℕ, ◌+◌, ◌-◌, ◌*◌, ◌/◌, ◌≤◌, min, max, leb, None, Option, Some}
use Rattle.names.specs.declared.Name.{Name}
use Rattle.zones.specs.declared.TrainingProfile.{TrainingProfile}
use Rattle.model.specs.declared.Length.{Length}
use Rattle.model.specs.declared.Length.TheVariants.{Time, Distance, Open}
use Rattle.model.specs.declared.Test.{Test}
use Rattle.model.specs.declared.Test.TheVariants as tests
use Rattle.model.specs.declared.Workout.{Workout}
use Rattle.model.specs.declared.Band.{Band}
use Rattle.model.specs.declared.Ramp.{Ramp}
use Rattle.model.specs.Target.{watts_at, ramp_option, band_of}
use Rattle.order.specs.declared.Played.{Played}
use Rattle.order.specs.Order.{no_played, nothing, played_of, planned_from, has_untimed}
use Rattle.readings.specs.declared.Readings.{Readings}
use Rattle.readings.specs.declared.ComplianceOption.TheVariants as how
use Rattle.power.specs.Power.{average_of}
use Rattle.readings.specs.Readings.{reading_of, compliance_of}
use Rattle.state.specs.declared.Lap.{Lap}
use Rattle.state.specs.declared.Measured.{Measured}
use Rattle.state.specs.declared.Core.{Core}
use Rattle.state.specs.declared.Player.{Player}
use Rattle.state.specs.State.{duration_ms, distance_m, SmallEnergy}
use Rattle.measure.specs.Measure.{test_in}
use Rattle.screen.specs.declared.Left.TheVariants as left
use Rattle.screen.specs.declared.Shown.{Shown}
use Rattle.screen.specs.declared.TestReadout.{TestReadout}
use Rattle.screen.specs.declared.TestReadout.TheVariants as readout
use Rattle.screen.specs.declared.Now.{Now}

-- Milliseconds as seconds, rounded up.
abbrev pub seconds_up : ℕ → ℕ
seconds_up ms = (ms + 999) / 1000

-- player.rs, `remaining_secs`: what is left of the step on now and the steps ahead, when all of the workout is timed and not yet done.
abbrev pub remaining_in : Length → Lap → ℕ → Option ℕ
remaining_in (Time secs) lap ahead = Some (ahead + seconds_up (duration_ms secs lap - lap.step_ms))
remaining_in (Distance metres) lap ahead = None
remaining_in Open lap ahead = None

unfoldable pub remaining_of : Workout → Core → Option ℕ
remaining_of w c = cond (c.done || has_untimed w) None (remaining_in c.on.length c.lap (planned_from w (c.position + 1)))

-- player.rs, `distance_step`: the step on now lasts a distance.
abbrev pub is_distance : Length → Bool
is_distance (Time secs) = false
is_distance (Distance metres) = true
is_distance Open = false

-- player.rs, `now`: the step on now, for the screen.

-- What is left of the step, and how far through it, in thousandths.
unfoldable pub shown_of : Length → Lap → Shown
shown_of (Time s) lap =
    record {
      left = left.Secs (seconds_up (duration_ms s lap - lap.step_ms));
      progress = min (lap.step_ms * 1000 / max (duration_ms s lap) 1) 1000;
    }
shown_of (Distance metres) lap =
    record {
      left = left.Metres (distance_m metres lap - lap.step_mm / 1000);
      progress = min (lap.step_mm / max (distance_m metres lap) 1) 1000;
    }
shown_of Open lap = record { left = left.Open (lap.step_ms / 1000); progress = 0 }

-- The watts of the ramp's stage on now.
abbrev pub ramp_watts_of : Option Ramp → ℕ → Option ℕ
ramp_watts_of None elapsed = None
ramp_watts_of (Some ramp) elapsed = Some (watts_at ramp elapsed)

-- The reading the band is checked against; without a band the power average.
abbrev pub shown_reading : Option Band → Readings → Option ℕ
shown_reading None r = average_of r.power
shown_reading (Some band) r = reading_of band.metric r

-- A test's running number: the average of the twenty minutes so far, the ramp's best minute.
abbrev pub average_readout : Measured → TestReadout
average_readout m = cond (leb m.test_ms 0) readout.None (readout.Average ((m.test_mj + m.test_ms / 2) / m.test_ms))

abbrev pub minute_readout : Option ℕ → TestReadout
minute_readout None = readout.None
minute_readout (Some watts) = readout.BestMinute watts

unfoldable pub readout_by : Test → Measured → TestReadout
readout_by tests.None m = readout.None
readout_by tests.Twenty m = average_readout m
readout_by tests.Ramp m = minute_readout m.ring.best_minute

abbrev pub played_now : Core → Name → Played
played_now c note =
    record {
      index = c.on.index;
      repetition = c.on.repetition;
      of = c.on.of;
      step = record { intensity = c.on.intensity; length = c.on.length; target = c.on.target; note = note };
    }

-- "After the end `now` shows the last step afresh, without band." So ramp, next step and test are shown before the end alone.
unfoldable pub shown_band : Core → TrainingProfile → Option Band
shown_band c profile = cond c.done None (band_of c.on.target profile (c.lap.step_ms / 1000))

unfoldable pub shown_ramp : Core → TrainingProfile → Option ℕ
shown_ramp c profile = cond c.done None (ramp_watts_of (ramp_option c.on.target profile) (c.lap.step_ms / 1000))

unfoldable pub shown_next : Workout → Core → Option Played
shown_next w c = cond c.done nothing (played_of w (c.position + 1))

unfoldable pub shown_readout : Core → Test → TestReadout
shown_readout c test = cond c.done readout.None (readout_by (test_in c.on.intensity test) c.measured)

-- The screen's numbers, by the band that is shown.
abbrev pub now_with : Option Band → Core → Name → Workout → TrainingProfile → Now
now_with band c note w profile =
    record {
      position = min c.position (c.steps - 1);
      steps = c.steps;
      played = played_now c note;
      band = band;
      ramp_watts = shown_ramp c profile;
      reading = shown_reading band c.readings;
      compliance = compliance_of c.on.target band profile c.readings;
      left = (shown_of c.on.length c.lap).left;
      progress = (shown_of c.on.length c.lap).progress;
      next = shown_next w c;
      test = shown_readout c w.test;
    }

unfoldable pub now_in : Player → TrainingProfile → Now
now_in p profile = now_with (shown_band p.core profile) p.core p.note p.workout profile

abbrev pub no_now : Now
no_now =
    record {
      position = 0;
      steps = 0;
      played = no_played;
      band = None;
      ramp_watts = None;
      reading = None;
      compliance = how.NoBand;
      left = left.Open 0;
      progress = 0;
      next = nothing;
      test = readout.None;
    }

-- What the reports suppose of a core, which a standing player's has.
pub record ReportFits (c : Core) : Type 0 where
  pub position : c.position ≤ 96
  pub steps : c.steps ≤ 96
  pub step-ms : c.lap.step_ms ≤ 604800000
  pub step-mm : c.lap.step_mm ≤ 7000000000
  pub extra-s : c.lap.extra_s ≤ 86400
  pub test-mj : SmallEnergy c.measured
  pub test-ms : c.measured.test_ms ≤ 604800000
