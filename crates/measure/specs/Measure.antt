-- player.rs's tests: the twenty minutes' sums, the ramp's minutes, and the FTP that they give.
use Rattle.std.specs.Prelude.{Bool, false, cond, ◌&&◌, List, ℕ, zero, suc, ◌+◌, ◌*◌, ◌/◌, ◌%◌, ◌≤◌, ◌<◌, min, max, ltb, leb, eqb, set, None, Option, Some}
use Rattle.common.specs.Lists.{sum}
use Rattle.zones.specs.declared.TrainingProfile.{TrainingProfile}
use Rattle.model.specs.declared.Intensity.{Intensity}
use Rattle.model.specs.declared.Intensity.TheVariants.{Warmup, Work, Recovery, Cooldown}
use Rattle.model.specs.declared.Intensity.TheVariants as intensities
use Rattle.model.specs.declared.Length.{Length}
use Rattle.model.specs.declared.Length.TheVariants.{Time, Distance, Open}
use Rattle.model.specs.declared.Test.{Test}
use Rattle.model.specs.declared.Test.TheVariants.{Twenty}
use Rattle.model.specs.declared.Test.TheVariants as tests
use Rattle.model.specs.declared.Ramp.{Ramp}
use Rattle.model.specs.Target.{ramp_option, watts_at}
use Rattle.readings.specs.declared.Readings.{Readings}
use Rattle.power.specs.Power.{or_zero, average_of}
use Rattle.state.specs.declared.Ring.{Ring}
use Rattle.state.specs.declared.Measured.{Measured}
use Rattle.state.specs.declared.Lap.{Lap}
use Rattle.state.specs.declared.StepNow.{StepNow}
use Rattle.state.specs.State.{duration_ms, SmallEnergy}

-- The minute: the ring's numbers and its watts.

pub record Minute : Type 0 where
  pub ring : Ring
  pub watts : List ℕ

abbrev pub minute_of : Ring → List ℕ → Minute
minute_of ring watts = record { ring = ring; watts = watts }

-- The mean of some seconds, rounded half up.
abbrev pub mean_of : ℕ → List ℕ → ℕ
mean_of seconds watts = (sum watts + seconds / 2) / seconds

-- The greater of the best so far, if there is one, and another.
abbrev pub above : Option ℕ → ℕ → ℕ
above None mean = mean
above (Some best) mean = max best mean

-- The best minute once the minute, of so many seconds, is full.
abbrev pub best_after : Bool → ℕ → Option ℕ → List ℕ → Option ℕ
best_after full seconds best watts = cond full (Some (above best (mean_of seconds watts))) best

-- One second more in a minute of so many seconds.
unfoldable pub pushed : ℕ → ℕ → Minute → Minute
pushed seconds w m =
    record {
      ring =
          record {
            best_minute = best_after (eqb (min (m.ring.minute_len + 1) seconds) seconds) seconds m.ring.best_minute
                (set m.watts m.ring.minute_at w);
            minute_at = (m.ring.minute_at + 1) % seconds;
            minute_len = min (m.ring.minute_len + 1) seconds;
          };
      watts = set m.watts m.ring.minute_at w;
    }

-- A number of seconds more, all of the same watts.
unfoldable pub pushes : ℕ → ℕ → ℕ → Minute → Minute
pushes seconds zero w m = m
pushes seconds (suc n) w m = pushes seconds n w (pushed seconds w m)

-- The test's numbers and the minute's watts.

pub record Meter : Type 0 where
  pub measured : Measured
  pub watts : List ℕ

abbrev pub meter : Measured → List ℕ → Meter
meter measured watts = record { measured = measured; watts = watts }

-- The workout's test in a `Test` step, none elsewhere.
abbrev pub test_in : Intensity → Test → Test
test_in Warmup test = tests.None
test_in Work test = tests.None
test_in Recovery test = tests.None
test_in Cooldown test = tests.None
test_in intensities.Test test = test

-- The watts that a ramp asks for some seconds into its step, 0 without a ramp.
abbrev pub ramp_target : Option Ramp → ℕ → ℕ
ramp_target None secs = 0
ramp_target (Some ramp) secs = watts_at ramp secs

-- How long the rider has been under 90 % of the ramp. Without an average nothing is known.
abbrev pub low_by : ℕ → Option ℕ → ℕ → ℕ → ℕ
low_by target None ms low = low
low_by target (Some watts) ms low = cond (leb (target * 90) (watts * 100)) 0 (low + ms)

-- "`Twenty` adds the last power (absent 0) to the sum and 1 to its time", for some milliseconds at once
abbrev pub with_twenty : ℕ → ℕ → Measured → Measured
with_twenty w ms m =
    record {
      test_mj = m.test_mj + w * ms;
      test_ms = m.test_ms + ms;
      minute_rest_ms = m.minute_rest_ms;
      ramp_low_ms = m.ramp_low_ms;
      ring = m.ring;
    }

abbrev pub with_minute : ℕ → ℕ → Minute → Measured → Meter
with_minute rest low minute m =
    record {
      measured =
          record {
            test_mj = m.test_mj;
            test_ms = m.test_ms;
            minute_rest_ms = rest;
            ramp_low_ms = low;
            ring = minute.ring;
          };
      watts = minute.watts;
    }

-- player.rs: one place per whole second ridden, at most 60 a part; what is no whole second rests.
unfoldable pub ramp_part : ℕ → ℕ → ℕ → Meter → Meter
ramp_part w ms low m =
    with_minute ((m.measured.minute_rest_ms + ms) % 1000) low
    (pushes 60 (min ((m.measured.minute_rest_ms + ms) / 1000) 60) w (minute_of m.measured.ring m.watts)) m.measured

abbrev pub measured_by : Test → ℕ → ℕ → ℕ → Meter → Meter
measured_by tests.None w ms low m = m
measured_by Twenty w ms low m = meter (with_twenty w ms m.measured) m.watts
measured_by tests.Ramp w ms low m = ramp_part w ms low m

-- player.rs, `measure`: after some milliseconds of the step on now, which then has lasted step-ms.
unfoldable pub measured_of : Test → StepNow → Readings → TrainingProfile → ℕ → ℕ → Meter → Meter
measured_of test on r p step-ms ms m =
    measured_by (test_in on.intensity test) (or_zero r.last_sample.power_watts) ms
    (low_by (ramp_target (ramp_option on.target p) (step-ms / 1000)) (average_of r.power) ms m.measured.ramp_low_ms) m

-- What `measure` supposes: the ring's place and the rest are within their limits, and no sum passes the limit of the totals.
pub record MeasureFits (m : Measured) (step-ms ms : ℕ) : Type 0 where
  pub place : m.ring.minute_at < 60
  pub rest : m.minute_rest_ms < 1000
  pub energy : SmallEnergy m
  pub time : m.test_ms + ms ≤ 604800000
  pub low : m.ramp_low_ms + ms ≤ 604800000
  pub step : step-ms ≤ 604800000

-- The result.

-- "Only 50 to 600 is kept."
abbrev pub kept_ftp : ℕ → Option ℕ
kept_ftp watts = cond (leb 50 watts && leb watts 600) (Some watts) None

-- "unless .. test time is below that step's 1,000 × (seconds + extra), mean (sum + time / 2) / time, then (mean × 95 + 50) / 100"
unfoldable pub twenty_ftp : ℕ → Measured → Option ℕ
twenty_ftp end m =
    cond (ltb m.test_ms end) None (kept_ftp (((m.test_mj + m.test_ms / 2) / m.test_ms * 95 + 50) / 100))

-- Only a timed step has seconds.
abbrev pub twenty_by : Length → Lap → Measured → Option ℕ
twenty_by (Time secs) lap m = twenty_ftp (duration_ms secs lap) m
twenty_by (Distance metres) lap m = None
twenty_by Open lap m = None

-- "`Ramp`: the greatest (sum + 30) / 60 of 60 neighbouring seconds, × 75, + 50, / 100"
abbrev pub ramp_ftp : Option ℕ → Option ℕ
ramp_ftp None = None
ramp_ftp (Some best) = kept_ftp ((best * 75 + 50) / 100)

abbrev pub result_by : Test → Length → Lap → Bool → Measured → Option ℕ
result_by tests.None l lap skipped m = None
result_by Twenty l lap skipped m = cond skipped None (twenty_by l lap m)
result_by tests.Ramp l lap skipped m = ramp_ftp m.ring.best_minute

-- player.rs, `result`: of the step that is ending, skipped or not.
unfoldable pub result_of : Test → StepNow → Lap → Bool → Measured → Option ℕ
result_of test on lap skipped m = result_by (test_in on.intensity test) on.length lap skipped m

-- player.rs, `ramp_failed`: under the ramp for 10 s, and past its first stage.
abbrev pub ramp_failed : Option Ramp → ℕ → ℕ → Bool
ramp_failed None step-ms low = false
ramp_failed (Some ramp) step-ms low = leb (ramp.every * 1000) step-ms && leb 10000 low
