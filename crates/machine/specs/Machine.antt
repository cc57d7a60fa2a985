-- Document 01, 'The millisecond machine': its state, and what a read, an extend, a skip and a millisecond make of it.
-- With the player it shares the types of what goes in and out (workout, profile, readings, summary), the playing order (`played_of`,
-- `played_len`), the band of a target (`band_of`) and the zone of a heart rate (`heart_zone`); crate bench_sheet has closed facts of these
-- three. All else is its own, written from the paper's sentences: average, whole turns, in, under and over, event kinds, results.
-- The machine's words are the paper's: a step that ends by a skip is marked, and the rest is what is left over from whole seconds.
use Rattle.std.specs.Prelude.{Bool, true, false, cond, ◌&&◌, List, [], ◌∷◌, ◌++◌, ℕ, zero, suc, ◌+◌, ◌*◌, ◌/◌, max, ltb, leb, eqb, length, take, None, Some, is_some, Option}
use Rattle.common.specs.Lists.{sum}
use Rattle.zones.specs.declared.TrainingProfile.{TrainingProfile}
use Rattle.zones.specs.Zones.{heart_zone}
use Rattle.model.specs.declared.Intensity.{Intensity}
use Rattle.model.specs.declared.Intensity.TheVariants.{Warmup, Work, Recovery, Cooldown}
use Rattle.model.specs.declared.Intensity.TheVariants as intensities
use Rattle.model.specs.declared.Length.{Length}
use Rattle.model.specs.declared.Length.TheVariants.{Time, Distance, Open}
use Rattle.model.specs.declared.Metric.{Metric}
use Rattle.model.specs.declared.Metric.TheVariants as metrics
use Rattle.model.specs.declared.Band.{Band}
use Rattle.model.specs.declared.Target.{Target}
use Rattle.model.specs.declared.Target.TheVariants.{Free, Ftp, Watts, HeartZone, Lthr, Cadence, FtpRamp}
use Rattle.model.specs.declared.Target.TheVariants as targets
use Rattle.model.specs.declared.Test.{Test}
use Rattle.model.specs.declared.Test.TheVariants.{Twenty}
use Rattle.model.specs.declared.Test.TheVariants as tests
use Rattle.model.specs.declared.Step.{Step}
use Rattle.model.specs.declared.Workout.{Workout}
use Rattle.model.specs.Target.{band_of}
use Rattle.order.specs.declared.Played.{Played}
use Rattle.order.specs.Order.{played_of, played_len, played_in}
use Rattle.readings.specs.declared.Sample.{Sample}
use Rattle.events.specs.Events.{Event}
use Rattle.state.specs.declared.Summary.{Summary}

-- State.

-- "position, time and extra in the step". The position is the number of steps done.
pub record StepTime : Type 0 where
  pub position : ℕ
  pub time : ℕ
  pub extra : ℕ

-- "tallies"; "The machine counts unread too" (document 02, g).
pub record Tallies : Type 0 where
  pub targeted : ℕ
  pub inside : ℕ
  pub under : ℕ
  pub over : ℕ
  pub unread : ℕ

-- "test sums, a list of seconds' watts with a rest". The newest second stands first; `seconds_either_way` says that the result is the
-- same with the newest last.
pub record Sums : Type 0 where
  pub sum : ℕ
  pub time : ℕ
  pub rest : ℕ
  pub seconds : List ℕ

-- What the ends of steps have given: how many were skipped, "FTP", and the events so far.
pub record Given : Type 0 where
  pub skipped : ℕ
  pub ftp : Option ℕ
  pub events : List Event

-- "State: position, time and extra in the step, last three readings, tallies, test sums, a list of seconds' watts with a rest, FTP."
-- The newest reading stands first.
pub record Machine : Type 0 where
  pub step : StepTime
  pub readings : List Sample
  pub tallies : Tallies
  pub sums : Sums
  pub given : Given

-- "It starts at position 0, all else 0, empty or absent."
abbrev pub no_tallies : Tallies
no_tallies = record { targeted = 0; inside = 0; under = 0; over = 0; unread = 0 }

abbrev pub no_sums : Sums
no_sums = record { sum = 0; time = 0; rest = 0; seconds = [] }

unfoldable pub start : Machine
start =
    record {
      step = record { position = 0; time = 0; extra = 0 };
      readings = [];
      tallies = no_tallies;
      sums = no_sums;
      given = record { skipped = 0; ftp = None; events = [] };
    }

-- The step at a position. Where there is none all steps are done, and the machine has finished.
abbrev pub step_of : Option Played → Option Step
step_of played = cond (is_some played) (Some (played_in played).step) None

unfoldable pub step_at : Workout → ℕ → Option Step
step_at w position = step_of (played_of w position)

abbrev pub is_none : Option Step → Bool
is_none None = true
is_none (Some s) = false

unfoldable pub is_finished : Workout → Machine → Bool
is_finished w m = is_none (step_at w m.step.position)

-- Read.

-- "Read: the newest three stay."
unfoldable pub reading : Sample → Machine → Machine
reading sample m =
    record { step = m.step; readings = take 3 (sample ∷ m.readings); tallies = m.tallies; sums = m.sums; given = m.given }

-- "all else .. absent": before the first read
abbrev pub no_reading : Sample
no_reading = record { power_watts = None; heart_bpm = None; cadence_tenths = None }

abbrev pub newest : List Sample → Sample
newest [] = no_reading
newest (sample ∷ samples) = sample

-- Extend.

-- "Extend: .. more in an unfinished timed step", the seconds of the call: the extra after it, if it is one.
abbrev pub extra_in : Length → ℕ → ℕ → Option ℕ
extra_in (Time time) secs extra = Some (extra + secs)
extra_in (Distance metres) secs extra = None
extra_in Open secs extra = None

abbrev pub extra_after : Option Step → ℕ → ℕ → Option ℕ
extra_after None secs extra = None
extra_after (Some s) secs extra = extra_in s.length secs extra

abbrev pub lengthened : ℕ → StepTime → StepTime
lengthened extra t = record { position = t.position; time = t.time; extra = extra }

unfoldable pub with_extra : Option ℕ → Machine → Machine
with_extra None m = m
with_extra (Some extra) m =
    record { step = lengthened extra m.step; readings = m.readings; tallies = m.tallies; sums = m.sums; given = m.given }

-- The test's result.

-- "in a `Test` step"
abbrev pub is_test : Intensity → Bool
is_test Warmup = false
is_test Work = false
is_test Recovery = false
is_test Cooldown = false
is_test intensities.Test = true

-- The workout's test in such a step, none elsewhere.
abbrev pub test_in : Workout → Step → Test
test_in w s = cond (is_test s.intensity) w.test tests.None

-- "1,000 × (seconds + extra)"
abbrev pub end_of : ℕ → ℕ → ℕ
end_of secs extra = 1000 * (secs + extra)

-- "Only 50 to 600 is kept."
abbrev pub kept : ℕ → Option ℕ
kept watts = cond (leb 50 watts && leb watts 600) (Some watts) None

-- "mean (sum + time / 2) / time, then (mean × 95 + 50) / 100"
abbrev pub twenty_watts : Sums → ℕ
twenty_watts u = ((u.sum + u.time / 2) / u.time * 95 + 50) / 100

-- "`Twenty`: unless marked or test time is below that step's 1,000 × (seconds + extra)". A step without seconds gives none.
unfoldable pub twenty : Length → ℕ → Sums → Option ℕ
twenty (Time secs) extra u = cond (ltb u.time (end_of secs extra)) None (kept (twenty_watts u))
twenty (Distance metres) extra u = None
twenty Open extra u = None

-- "(sum + 30) / 60 of 60 neighbouring seconds", for any number of numbers
unfoldable pub mean : ℕ → List ℕ → ℕ
mean n watts = (sum watts + n / 2) / n

abbrev pub greater : Option ℕ → ℕ → ℕ
greater None watts = watts
greater (Some best) watts = max best watts

-- "the greatest": of the newest n seconds and of those before the newest one, while there are n.
unfoldable pub greatest : ℕ → List ℕ → Option ℕ
greatest n [] = None
greatest n (w ∷ ws) = cond (leb n (suc (length ws))) (Some (greater (greatest n ws) (mean n (take n (w ∷ ws))))) None

-- "× 75, + 50, / 100"
abbrev pub ramp_of : Option ℕ → Option ℕ
ramp_of None = None
ramp_of (Some best) = kept ((best * 75 + 50) / 100)

-- "`Ramp`: the greatest (sum + 30) / 60 of 60 neighbouring seconds, × 75, + 50, / 100."
unfoldable pub ramp : Sums → Option ℕ
ramp u = ramp_of (greatest 60 u.seconds)

unfoldable pub result : Test → Length → ℕ → Bool → Sums → Option ℕ
result tests.None l extra marked u = None
result Twenty l extra marked u = cond marked None (twenty l extra u)
result tests.Ramp l extra marked u = ramp u

-- "in a `Test` step the result, if any"
abbrev pub result_in : Workout → Step → Bool → Machine → Option ℕ
result_in w s marked m = result (test_in w s) s.length m.step.extra marked m.sums

-- Ending.

-- "is kept"
abbrev pub ftp_after : Option ℕ → Option ℕ → Option ℕ
ftp_after None before = before
ftp_after (Some watts) before = Some watts

-- "kinds (0 countdown, 1 started, 2 finished, 3 FTP) and 16-bit values (seconds, position, 0, watts)". The machine has no countdowns.
abbrev pub started : ℕ → Event
started position = record { kind = 1; value = position }

abbrev pub finished : Event
finished = record { kind = 2; value = 0 }

abbrev pub ftp : ℕ → Event
ftp watts = record { kind = 3; value = watts }

-- "with an FTP event"
abbrev pub ftp_events : Option ℕ → List Event
ftp_events None = []
ftp_events (Some watts) = ftp watts ∷ []

-- "started with the new position, or finished"
abbrev pub next_event : Option Step → ℕ → Event
next_event None position = finished
next_event (Some s) position = started position

-- "Test sums, seconds' list, rest and best minute now begin empty whenever a step starts." (document 02, d; they "run on across steps"
-- in document 01.) At the finish no step starts. The best minute is made of the list.
abbrev pub sums_at : Option Step → Sums → Sums
sums_at None u = u
sums_at (Some s) u = no_sums

-- The step after the one at a position.
abbrev pub step_after : Workout → ℕ → Option Step
step_after w position = step_at w (position + 1)

abbrev pub given_at : Option Step → ℕ → Bool → Option ℕ → Given → Given
given_at next position marked result g =
    record {
      skipped = g.skipped + cond marked 1 0;
      ftp = ftp_after result g.ftp;
      events = g.events ++ (ftp_events result ++ (next_event next position ∷ []));
    }

-- "Ending: in a `Test` step the result, if any, is kept with an FTP event; done + 1, skipped + 1 if marked; time and extra 0;
-- started with the new position, or finished."
unfoldable pub ended : Workout → Step → Bool → Machine → Machine
ended w s marked m =
    record {
      step = record { position = m.step.position + 1; time = 0; extra = 0 };
      readings = m.readings;
      tallies = m.tallies;
      sums = sums_at (step_after w m.step.position) m.sums;
      given = given_at (step_after w m.step.position) (m.step.position + 1) marked (result_in w s marked m) m.given;
    }

-- "Skip: unless finished, end the step, marked."
unfoldable pub skipped : Workout → Option Step → Machine → Machine
skipped w None m = m
skipped w (Some s) m = ended w s true m

-- A millisecond.

-- "its reading present (for power the three-reading average, else the newest reading's)"

abbrev pub if_present : Option ℕ → List ℕ
if_present None = []
if_present (Some power) = power ∷ []

-- The power of those reads that have it.
unfoldable pub present : List Sample → List ℕ
present [] = []
present (sample ∷ samples) = if_present sample.power_watts ++ present samples

-- "the three-reading average": the mean of those present among the last three, if there is one. "Readings 100, 101: 101."
abbrev pub average_watts : List ℕ → Option ℕ
average_watts [] = None
average_watts (w ∷ ws) = Some (mean (length (w ∷ ws)) (w ∷ ws))

-- Tenths of a turn in whole turns, half a turn up.
abbrev pub turns : Option ℕ → Option ℕ
turns None = None
turns (Some tenths) = Some ((tenths + 5) / 10)

unfoldable pub reading_for : Metric → List Sample → Option ℕ
reading_for metrics.Power samples = average_watts (present samples)
reading_for metrics.Heart samples = (newest samples).heart_bpm
reading_for metrics.Cadence samples = turns (newest samples).cadence_tenths

-- "in, under or over"; unread: "a band stood, its reading was absent" (document 02, g); or nothing, without a band.
pub data Judged : Type 0 where
  is_under : Judged
  is_in : Judged
  is_over : Judged
  is_unread : Judged
  is_nothing : Judged

-- In from the low end to the high one, both included.
abbrev pub between : ℕ → ℕ → ℕ → Judged
between low high value = cond (leb low value && leb value high) is_in (cond (ltb value low) is_under is_over)

-- "For a heart zone compliance compares zones and not the band: at LTHR 160 zone 1 shows 104 to 129, and 90 bpm is In."
abbrev pub judge : Target → Band → TrainingProfile → ℕ → Judged
judge Free b p value = between b.low b.high value
judge (Ftp low high) b p value = between b.low b.high value
judge (Watts low high) b p value = between b.low b.high value
judge (HeartZone zone) b p value = between zone zone (heart_zone p value)
judge (Lthr low high) b p value = between b.low b.high value
judge (Cadence low high) b p value = between b.low b.high value
judge (targets.Ramp start step every) b p value = between b.low b.high value
judge (FtpRamp start step every) b p value = between b.low b.high value

-- "with a band and its reading present"
abbrev pub judge_if : Target → Band → TrainingProfile → Option ℕ → Judged
judge_if target b p None = is_unread
judge_if target b p (Some value) = judge target b p value

abbrev pub judged_by : Target → Option Band → TrainingProfile → List Sample → Judged
judged_by target None p samples = is_nothing
judged_by target (Some b) p samples = judge_if target b p (reading_for b.metric samples)

abbrev pub judged_in : TrainingProfile → Step → Machine → Judged
judged_in p s m = judged_by s.target (band_of s.target p (m.step.time / 1000)) p m.readings

-- "one to targeted and one to in, under or over", or one to unread
unfoldable pub tally : Judged → Tallies → Tallies
tally is_under t = record { targeted = t.targeted + 1; inside = t.inside; under = t.under + 1; over = t.over; unread = t.unread }
tally is_in t = record { targeted = t.targeted + 1; inside = t.inside + 1; under = t.under; over = t.over; unread = t.unread }
tally is_over t = record { targeted = t.targeted + 1; inside = t.inside; under = t.under; over = t.over + 1; unread = t.unread }
tally is_unread t = record { targeted = t.targeted; inside = t.inside; under = t.under; over = t.over; unread = t.unread + 1 }
tally is_nothing t = t

-- "the last power (absent 0)"
abbrev pub zero_if_absent : Option ℕ → ℕ
zero_if_absent None = 0
zero_if_absent (Some power) = power

abbrev pub last_power : List Sample → ℕ
last_power samples = zero_if_absent (newest samples).power_watts

-- "adds 1 to the rest and at 1,000 clears it and appends that power"
unfoldable pub rested : Bool → ℕ → Sums → Sums
rested true power u = record { sum = u.sum; time = u.time; rest = 0; seconds = power ∷ u.seconds }
rested false power u = record { sum = u.sum; time = u.time; rest = u.rest + 1; seconds = u.seconds }

-- "in a `Test` step, `Twenty` adds the last power (absent 0) to the sum and 1 to its time, `Ramp` adds 1 to the rest and at 1,000
-- clears it and appends that power"
unfoldable pub summed : Test → ℕ → Sums → Sums
summed tests.None power u = u
summed Twenty power u = record { sum = u.sum + power; time = u.time + 1; rest = u.rest; seconds = u.seconds }
summed tests.Ramp power u = rested (eqb (u.rest + 1) 1000) power u

-- The millisecond but for the step's end.
unfoldable pub ridden : Workout → TrainingProfile → Step → Machine → Machine
ridden w p s m =
    record {
      step = record { position = m.step.position; time = m.step.time + 1; extra = m.step.extra };
      readings = m.readings;
      tallies = tally (judged_in p s m) m.tallies;
      sums = summed (test_in w s) (last_power m.readings) m.sums;
      given = m.given;
    }

-- "a timed step whose time is 1,000 × (seconds + extra) ends"
unfoldable pub ends_now : Length → ℕ → ℕ → Bool
ends_now (Time secs) extra time = eqb time (end_of secs extra)
ends_now (Distance metres) extra time = false
ends_now Open extra time = false

unfoldable pub closed : Workout → Step → Machine → Machine
closed w s m = cond (ends_now s.length m.step.extra m.step.time) (ended w s false m) m

-- "Each millisecond, unless finished"
unfoldable pub millisecond_in : Workout → TrainingProfile → Option Step → Machine → Machine
millisecond_in w p None m = m
millisecond_in w p (Some s) m = closed w s (ridden w p s m)

unfoldable pub millisecond : Workout → TrainingProfile → Machine → Machine
millisecond w p m = millisecond_in w p (step_at w m.step.position) m

unfoldable pub milliseconds : Workout → TrainingProfile → ℕ → Machine → Machine
milliseconds w p zero m = m
milliseconds w p (suc n) m = milliseconds w p n (millisecond w p m)

-- "Its record is the writer's, of these fields, the workout's name, test and played length": the summary that it is written from.
unfoldable pub summary_of : Workout → Machine → Summary
summary_of w m =
    record {
      targeted_ms = m.tallies.targeted;
      in_ms = m.tallies.inside;
      under_ms = m.tallies.under;
      over_ms = m.tallies.over;
      unread_ms = m.tallies.unread;
      ftp = m.given.ftp;
      steps_done = m.step.position;
      steps = played_len w;
      skipped = m.given.skipped;
      finished = is_finished w m;
    }
