-- Some rides, and what the machine makes of them; and that the third demand and the laws beside it are of something: a workout that is
-- taken, a list cut in two ways with nothing refused, a call that is refused.
use Rattle.std.specs.Prelude.{◌≡◌, true, List, [], ◌∷◌, ◌++◌, ℕ, ◌-◌, length, replicate, Err, None, Ok, Option, Some}
use Rattle.refusal.specs.declared.Refusal.TheVariants as refusals
use Rattle.names.specs.Names.{empty_name}
use Rattle.zones.specs.declared.TrainingProfile.{TrainingProfile}
use Rattle.zones.specs.Zones.{profile_ok}
use Rattle.model.specs.declared.Intensity.{Intensity}
use Rattle.model.specs.declared.Intensity.TheVariants.{Work}
use Rattle.model.specs.declared.Intensity.TheVariants as intensities
use Rattle.model.specs.declared.Length.TheVariants.{Time}
use Rattle.model.specs.declared.Target.{Target}
use Rattle.model.specs.declared.Target.TheVariants.{Free, Watts, HeartZone, Lthr}
use Rattle.model.specs.declared.Metric.TheVariants as metrics
use Rattle.model.specs.Target.{band_of}
use Rattle.model.specs.declared.Test.{Test}
use Rattle.model.specs.declared.Test.TheVariants as tests
use Rattle.model.specs.declared.Step.{Step}
use Rattle.model.specs.declared.Workout.{Workout}
use Rattle.model.specs.Workout.{no_step, no_block}
use Rattle.readings.specs.declared.Sample.{Sample}
use Rattle.events.specs.Events.{Event}
use Rattle.start.specs.Start.{new_of}
use Rattle.machine.specs.Machine.{Machine, Judged, is_under, is_in, is_over, is_unread, is_nothing, reading_for, judged_by, summary_of}
use Rattle.machine.specs.Cutting.{Call, read, ride, skip, extend, CutCall, uncut, alone, AllWellCut}
use Rattle.machine.specs.Runs.{called, begun, after_calls, calls_ask}
use Rattle.machine.specs.ThirdDemand.{Taken, InMemory, AllAccepted}
use Rattle.machine.specs.Banded.{list_banded}

abbrev pub step : Intensity → ℕ → Target → Step
step intensity secs target = record { intensity = intensity; length = Time secs; target = target; note = empty_name }

abbrev pub workout : Test → List Step → Workout
workout test steps =
    record {
      name = empty_name;
      steps = steps ++ replicate (12 - length steps) no_step;
      step_count = length steps;
      blocks = replicate 8 no_block;
      block_count = 0;
      test = test;
    }

-- "profile 200 and 160"
abbrev pub profile : TrainingProfile
profile = record { ftp_watts = 200; lthr_bpm = 160 }

abbrev pub read_watts : ℕ → CutCall
read_watts watts =
    record { call = read (record { power_watts = Some watts; heart_bpm = None; cadence_tenths = None }); pieces = [] }

-- A ride of two pieces without way.
abbrev pub ride_in : ℕ → ℕ → ℕ → CutCall
ride_in ms first second =
    record { call = ride ms 0 193 193; pieces = record { ms = first; mm = 0 } ∷ record { ms = second; mm = 0 } ∷ [] }

-- A ride whose first piece, of 300 ms, has more way than question 12 lets pass.
abbrev pub too_far : CutCall
too_far =
    record { call = ride 800 1000000001 193 193; pieces = record { ms = 300; mm = 1000000001 } ∷ record { ms = 500; mm = 0 } ∷ [] }

abbrev pub other : Call → CutCall
other call = record { call = call; pieces = [] }

abbrev pub after : Workout → List CutCall → Machine
after w l = (after_calls w profile l begun).machine

-- "A step of 10 s at 100 to 200 W", shortened to 2 s: as many ticks as a proof by running should have.
abbrev pub single : Workout
single = workout tests.None (step Work 2 (Watts 100 200) ∷ [])

-- 2 s at 80 to 160 bpm, then 1 s without a target.
abbrev pub strap : Workout
strap = workout tests.None (step Work 2 (Lthr 50 100) ∷ step Work 1 Free ∷ [])

abbrev pub pair : Test → Workout
pair test = workout test (step intensities.Test 2 Free ∷ step intensities.Test 1 Free ∷ [])

-- The same list, its rides cut otherwise.
abbrev pub cut_once : List CutCall
cut_once = read_watts 60 ∷ ride_in 500 200 300 ∷ other (extend 60 500) ∷ other (extend 30 250) ∷ other (skip 193 193) ∷ []

abbrev pub cut_again : List CutCall
cut_again = read_watts 60 ∷ ride_in 500 0 500 ∷ other (extend 60 500) ∷ other (extend 30 250) ∷ other (skip 193 193) ∷ []

abbrev pub read_heart : Option ℕ → CutCall
read_heart bpm = record { call = read (record { power_watts = Some 150; heart_bpm = bpm; cadence_tenths = None }); pieces = [] }

-- The strap of `strap`'s rider falls off for 600 ms; the last 500 ms are after the finish.
abbrev pub falls_off : List CutCall
falls_off = read_heart (Some 120) ∷ ride_in 500 200 300 ∷ read_heart None ∷ ride_in 600 300 300 ∷ read_heart (Some 120) ∷ ride_in 2400 1000 1400 ∷ []

-- Each test of `pair` at its own watts.
abbrev pub both_tests : List CutCall
both_tests = read_watts 53 ∷ ride_in 2000 1500 500 ∷ read_watts 200 ∷ ride_in 1000 500 500 ∷ []

-- Events by document 01's numbers: "kinds (0 countdown, 1 started, 2 finished, 3 FTP) and 16-bit values (seconds, position, 0, watts)".
abbrev pub event : ℕ → ℕ → Event
event kind value = record { kind = kind; value = value }

-- What is said of a rider with a heart rate, a cadence or power under a target.
abbrev pub judged : Target → Sample → Judged
judged target sample = judged_by target (band_of target profile 0) profile (sample ∷ [])

abbrev pub watts : Option ℕ → Sample
watts power = record { power_watts = power; heart_bpm = None; cadence_tenths = None }

abbrev pub heart : ℕ → Sample
heart bpm = record { power_watts = None; heart_bpm = Some bpm; cadence_tenths = None }

abbrev pub tenths : ℕ → Sample
tenths cadence = record { power_watts = None; heart_bpm = None; cadence_tenths = Some cadence }

pub record Samples : Type 0 where
  -- what the third demand takes
  pub taken : Taken single
  pub profiled : profile_ok profile ≡ true
  pub well_cut : AllWellCut cut_once × AllWellCut cut_again
  pub in_memory : InMemory single cut_once
  -- one list, cut in two ways, and nothing refused
  pub one_list : uncut cut_once ≡ uncut cut_again
  pub not_refused : AllAccepted (calls_ask single profile cut_once begun) × AllAccepted (calls_ask single profile cut_again begun)
  pub as_it_stands : AllAccepted (calls_ask single profile (alone (uncut cut_once)) begun)
  -- a player's call that is refused
  pub skip_refused : (called profile (skip 3 2) (new_of single).player).answer ≡ Err refusals.EventPlaces
  -- "Readings 100, 101: 101.", and of three; one that is absent counts for nothing
  pub two : reading_for metrics.Power (watts (Some 101) ∷ watts (Some 100) ∷ []) ≡ Some 101
  pub three : reading_for metrics.Power (watts (Some 101) ∷ watts (Some 101) ∷ watts (Some 100) ∷ []) ≡ Some 101
  pub absent : reading_for metrics.Power (watts (Some 100) ∷ watts None ∷ watts (Some 150) ∷ []) ≡ Some 125
  pub lone : reading_for metrics.Power (watts None ∷ watts None ∷ watts (Some 150) ∷ []) ≡ Some 150
  pub no_power_lem : reading_for metrics.Power (watts None ∷ []) ≡ None
  -- half a turn goes up
  pub half_turn : (reading_for metrics.Cadence (tenths 895 ∷ []) ≡ Some 90) × (reading_for metrics.Cadence (tenths 894 ∷ []) ≡ Some 89)
  -- both ends of a band are in
  pub low_end : (judged (Watts 100 200) (watts (Some 99)) ≡ is_under) × (judged (Watts 100 200) (watts (Some 100)) ≡ is_in)
  pub high_end : (judged (Watts 100 200) (watts (Some 200)) ≡ is_in) × (judged (Watts 100 200) (watts (Some 201)) ≡ is_over)
  -- "at LTHR 160 zone 1 shows 104 to 129, and 90 bpm is In."
  pub zone_1 : (judged (HeartZone 1) (heart 90) ≡ is_in) × (judged (HeartZone 1) (heart 129) ≡ is_in) × (judged (HeartZone 1) (heart 130) ≡ is_over)
  pub zone_2 : (judged (HeartZone 2) (heart 129) ≡ is_under) × (judged (HeartZone 2) (heart 130) ≡ is_in)
  -- a band without its reading, and no band
  pub no_heart : judged (HeartZone 1) (watts (Some 150)) ≡ is_unread
  pub no_band : judged Free (watts (Some 150)) ≡ is_nothing
  -- under, then in: the average of 60 and 150 is 105
  pub tallies : summary_of single (after single (read_watts 60 ∷ ride_in 500 200 300 ∷ read_watts 150 ∷ ride_in 2500 1000 1500 ∷ []))
      ≡ record {
        targeted_ms = 2000;
        in_ms = 1500;
        under_ms = 500;
        over_ms = 0;
        unread_ms = 0;
        ftp = None;
        steps_done = 1;
        steps = 1;
        skipped = 0;
        finished = true;
      }
  -- the 600 ms without the strap are unread, and the second without a target is neither that nor targeted
  pub unread : summary_of strap (after strap falls_off)
      ≡ record {
        targeted_ms = 1400;
        in_ms = 1400;
        under_ms = 0;
        over_ms = 0;
        unread_ms = 600;
        ftp = None;
        steps_done = 2;
        steps = 2;
        skipped = 0;
        finished = true;
      }
  pub under-band : list_banded strap profile falls_off begun ≡ 2000
  -- "1,200 s test at 53 W: 50; 52: none", of 2 s; the second test stands on its own step, at 200 W: with the first one's sums it would
  -- give 97
  pub tested : (after (pair tests.Twenty) both_tests).given.events ≡ event 3 50 ∷ event 1 1 ∷ event 3 190 ∷ event 2 0 ∷ []
  pub below : (after (pair tests.Twenty) (read_watts 52 ∷ ride_in 4000 2500 1500 ∷ [])).given.events ≡ event 1 1 ∷ event 2 0 ∷ []
  -- a skipped step is marked, and gives no `Twenty` result
  pub skips : (after (pair tests.Twenty) (read_watts 53 ∷ ride_in 1900 1000 900 ∷ other (skip 193 193) ∷ [])).given.events ≡ event 1 1 ∷ []
  pub marked : (after (pair tests.Twenty) (read_watts 53 ∷ ride_in 1900 1000 900 ∷ other (skip 193 193) ∷ [])).given.skipped ≡ 1
  -- a test after a skipped one has its own sums too; at the finish, where no step starts, they stay
  pub after-skip : (after (pair tests.Twenty) (read_watts 53 ∷ ride_in 1900 1000 900 ∷ other (skip 193 193) ∷ read_watts 200 ∷ ride_in 1000 500 500 ∷ [])).given.events
      ≡ event 1 1 ∷ event 3 190 ∷ event 2 0 ∷ []
  pub at_finish : (after (pair tests.Twenty) both_tests).sums ≡ record { sum = 200000; time = 1000; rest = 0; seconds = [] }
  -- 60 s more, then 30
  pub longer : (after single (other (extend 60 500) ∷ other (extend 30 250) ∷ ride_in 3000 1500 1500 ∷ [])).step ≡ record { position = 0; time = 3000; extra = 90 }
  -- 86,370 s of extra hold 30 s more and not 60; at the limit 0 s are let through and 1 s isn't, nor the most that a call can say
  pub limits : calls_ask single profile (other (extend 86370 0) ∷ other (extend 60 500) ∷ other (extend 30 250) ∷ other (extend 0 0) ∷ other (extend 1 0) ∷ other (extend 4294967295 0) ∷ []) begun
      ≡ Ok tt ∷ Err refusals.Extra ∷ (Ok tt) ∷ (Ok tt) ∷ Err refusals.Extra ∷ Err refusals.Extra ∷ []
  -- the player's own: any amount of metres is nothing to a timed step
  pub metres : (called profile (extend 86400 4294967295) (new_of single).player).answer ≡ Ok tt
  -- a piece is refused 12, a skip without places 14, and neither does anything
  pub refused : calls_ask single profile (too_far ∷ other (skip 3 2) ∷ []) begun
      ≡ Err refusals.Update ∷ (Ok tt) ∷ Err refusals.EventPlaces ∷ []
  pub ridden : (after single (too_far ∷ other (skip 3 2) ∷ [])).step.time ≡ 500
  -- two steps want five places in each array, the second alone three, and a finished workout none
  pub places : calls_ask (pair tests.None) profile (other (skip 4 5) ∷ other (skip 5 4) ∷ other (skip 5 5) ∷ other (skip 3 2) ∷ other (skip 3 3) ∷ other (skip 0 0) ∷ []) begun
      ≡ Err refusals.EventPlaces ∷ Err refusals.EventPlaces ∷ (Ok tt) ∷ Err refusals.EventPlaces ∷ (Ok tt) ∷ (Ok tt) ∷ []
