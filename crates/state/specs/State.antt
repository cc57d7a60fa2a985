-- player.rs's state: its summary, the step on now, and what an update's part is.
use Rattle.std.specs.Prelude.{Bool, cond, ◌&&◌, ◌||◌, ℕ, ◌+◌, ◌-◌, ◌*◌, ◌/◌, ◌≤◌, min, ltb, leb, eqb, None, Option, Some}
use Rattle.model.specs.declared.Length.{Length}
use Rattle.model.specs.declared.Length.TheVariants.{Time, Distance, Open}
use Rattle.order.specs.declared.Played.{Played}
use Rattle.readings.specs.declared.Sample.{Sample}
use Rattle.readings.specs.declared.Compliance.TheVariants.{Under, In, Over}
use Rattle.readings.specs.declared.ComplianceOption.{ComplianceOption}
use Rattle.readings.specs.declared.ComplianceOption.TheVariants.{NoBand, NoReading}
use Rattle.readings.specs.declared.ComplianceOption.TheVariants as how
use Rattle.readings.specs.Readings.{taken}
use Rattle.state.specs.declared.Part.{Part}
use Rattle.state.specs.declared.Summary.{Summary}
use Rattle.state.specs.declared.Lap.{Lap}
use Rattle.state.specs.declared.Measured.{Measured}
use Rattle.state.specs.declared.StepNow.{StepNow}
use Rattle.state.specs.declared.Core.{Core}

-- The summary.

-- "`in_target_pct` also has no value where in exceeds targeted or targeted exceeds 4,294,967,295"
unfoldable pub in_target_pct : Summary → Option ℕ
in_target_pct s =
    cond (eqb s.targeted_ms 0 || ltb s.targeted_ms s.in_ms || ltb 4294967295 s.targeted_ms) None
    (Some ((s.in_ms * 100 + s.targeted_ms / 2) / s.targeted_ms))

-- The summary with other tallies.
abbrev pub with_tallies : Summary → ℕ → ℕ → ℕ → ℕ → ℕ → Summary
with_tallies s targeted inside under over unread =
    record {
      targeted_ms = targeted;
      in_ms = inside;
      under_ms = under;
      over_ms = over;
      unread_ms = unread;
      ftp = s.ftp;
      steps_done = s.steps_done;
      steps = s.steps;
      skipped = s.skipped;
      finished = s.finished;
    }

-- "with a band and its reading present .., one to targeted and one to in, under or over", for some milliseconds at once. Document 02,
-- g: "The summary gains unread milliseconds: a band stood, its reading was absent."
unfoldable pub tallied : ComplianceOption → ℕ → Summary → Summary
tallied NoBand ms s = s
tallied NoReading ms s = with_tallies s s.targeted_ms s.in_ms s.under_ms s.over_ms (s.unread_ms + ms)
tallied (how.Some Under) ms s = with_tallies s (s.targeted_ms + ms) s.in_ms (s.under_ms + ms) s.over_ms s.unread_ms
tallied (how.Some In) ms s = with_tallies s (s.targeted_ms + ms) (s.in_ms + ms) s.under_ms s.over_ms s.unread_ms
tallied (how.Some Over) ms s = with_tallies s (s.targeted_ms + ms) s.in_ms s.under_ms (s.over_ms + ms) s.unread_ms

-- What `tally` supposes: none of its sums passes the limit of the totals.
pub record TallyFits (s : Summary) (ms : ℕ) : Type 0 where
  pub targeted : s.targeted_ms + ms ≤ 604800000
  pub inside : s.in_ms + ms ≤ 604800000
  pub under : s.under_ms + ms ≤ 604800000
  pub over : s.over_ms + ms ≤ 604800000
  pub unread : s.unread_ms + ms ≤ 604800000

-- The step on now.

-- The milliseconds of a timed step, with what touches added.
abbrev pub duration_ms : ℕ → Lap → ℕ
duration_ms secs lap = (secs + lap.extra_s) * 1000

-- The metres of a distance step, with what touches added, top out at 32 bits.
abbrev pub distance_m : ℕ → Lap → ℕ
distance_m metres lap = min (metres + lap.extra_m) 4294967295

abbrev pub distance_mm : ℕ → Lap → ℕ
distance_mm metres lap = distance_m metres lap * 1000

-- The lap of a step's start.
abbrev pub fresh_lap : Lap
fresh_lap = record { step_ms = 0; step_mm = 0; extra_s = 0; extra_m = 0 }

-- What the tests have measured at a step's start: "Test sums, seconds' list, rest and best minute now begin empty whenever a step
-- starts." (document 02, d.) The time under a ramp isn't among them. With no place filled, what stands in the minute counts for nothing.
abbrev pub fresh_measured : ℕ → Measured
fresh_measured low =
    record {
      test_mj = 0;
      test_ms = 0;
      minute_rest_ms = 0;
      ramp_low_ms = low;
      ring = record { best_minute = None; minute_at = 0; minute_len = 0 };
    }

-- "`test_mj` ≤ 65,535 × `test_ms`": the energy is a sum of 16-bit readings.
abbrev pub SmallEnergy : Measured → Type 0
SmallEnergy m = m.test_mj ≤ 65535 * m.test_ms

abbrev pub extended_lap : ℕ → ℕ → Lap → Lap
extended_lap secs metres lap =
    record {
      step_ms = lap.step_ms;
      step_mm = lap.step_mm;
      extra_s = lap.extra_s + secs;
      extra_m = lap.extra_m + metres;
    }

-- A played step but for its note.
abbrev pub step_now : Played → StepNow
step_now p =
    record {
      length = p.step.length;
      target = p.step.target;
      intensity = p.step.intensity;
      index = p.index;
      repetition = p.repetition;
      of = p.of;
    }

-- An update.

-- "`add`, ride and `until_end`: ms at most 86,400,000 and mm at most 1,000,000,000? 12."
abbrev pub update_ok : ℕ → ℕ → Bool
update_ok ms mm = leb ms 86400000 && leb mm 1000000000

-- Document 02, c: "An update can't give more than twice the unended steps plus one event, and gives none after the finish. Question 14
-- now wants at least that many places in each array, and none when done."
abbrev pub event_places : Core → ℕ
event_places c = cond c.done 0 (2 * (c.steps - c.position) + 1)

-- The part of an update.

abbrev pub part : ℕ → ℕ → Part
part ms mm = record { ms = record { 0 = ms }; mm = record { 0 = mm } }

-- "a timed step's share of distance down"
abbrev pub time_share : ℕ → ℕ → ℕ → Part
time_share left ms mm = cond (ltb left ms) (part left (mm * left / ms)) (part ms mm)

-- "A distance step's share of time rounds up"
abbrev pub way_share : ℕ → ℕ → ℕ → Part
way_share left ms mm = cond (ltb left mm) (part ((ms * left + (mm - 1)) / mm) left) (part ms mm)

-- What a step of a length still holds of an update.
unfoldable pub share_of : Length → Lap → ℕ → ℕ → Part
share_of (Time secs) lap ms mm = time_share (duration_ms secs lap - lap.step_ms) ms mm
share_of (Distance metres) lap ms mm = way_share (distance_mm metres lap - lap.step_mm) ms mm
share_of Open lap ms mm = part ms mm

-- player.rs, `until_end`: what the step on now still holds, all of it once the workout is done.
unfoldable pub until_end : Core → ℕ → ℕ → Part
until_end c ms mm = cond c.done (part ms mm) (share_of c.on.length c.lap ms mm)

-- player.rs, `read`
unfoldable pub read_core : Sample → Core → Core
read_core sample c =
    record {
      position = c.position;
      steps = c.steps;
      total_ms = c.total_ms;
      total_mm = c.total_mm;
      lap = c.lap;
      measured = c.measured;
      summary = c.summary;
      on = c.on;
      readings = taken sample c.readings;
      done = c.done;
    }
