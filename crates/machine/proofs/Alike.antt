-- The relation between the player's core with its minute and the machine, and that a part of a step and a step's end keep it.
use Rattle.std.specs.Prelude.{None, Some, is_some, Option}
use mathlib.Core.Path.{◌≡◌, refl, sym, ap, ap₂, ◌∙◌, subst}
use mathlib.Core.Bool.{Bool, true, false, cond, ◌&&◌}
use mathlib.Core.List.{List, [], ◌∷◌, ◌++◌, append_assoc}
use Prim.Native.Nat.{ℕ, ◌+◌, ◌*◌, ◌/◌, ◌≤◌, ◌<◌}
use native.Mathlib.Omega.{arith}
use lib.Dec.{ltb, leb}
use borrow.Author.Tests.{ltb-true, ltb-false, le-leb, lt-leb}
use Rattle.zones.specs.declared.TrainingProfile.{TrainingProfile}
use Rattle.zones.specs.Zones.{clamped, heart_zone}
use Rattle.model.specs.declared.Intensity.{Intensity}
use Rattle.model.specs.declared.Intensity.TheVariants.{Warmup, Work, Recovery, Cooldown}
use Rattle.model.specs.declared.Intensity.TheVariants as intensities
use Rattle.model.specs.declared.Length.{Length}
use Rattle.model.specs.declared.Length.TheVariants.{Time, Distance, Open}
use Rattle.model.specs.declared.Metric.{Metric}
use Rattle.model.specs.declared.Metric.TheVariants as metrics
use Rattle.model.specs.declared.Band.{Band}
use Rattle.model.specs.declared.Target.{Target}
use Rattle.model.specs.declared.Target.TheVariants.{Free, Ftp, Watts, HeartZone, Lthr, Cadence, Ramp, FtpRamp}
use Rattle.model.specs.declared.Test.{Test}
use Rattle.model.specs.declared.Test.TheVariants.{Twenty}
use Rattle.model.specs.declared.Test.TheVariants as tests
use Rattle.model.specs.declared.Step.{Step}
use Rattle.model.specs.declared.Workout.{Workout}
use Rattle.model.specs.Target.{band_of, ramp_option}
use Rattle.order.specs.declared.Played.{Played}
use Rattle.order.specs.Order.{played_of, played_len}
use Rattle.readings.specs.declared.Sample.{Sample}
use Rattle.readings.specs.declared.Readings.{Readings}
use Rattle.readings.specs.declared.Compliance.TheVariants.{Under, In, Over}
use Rattle.readings.specs.declared.ComplianceOption.{ComplianceOption}
use Rattle.readings.specs.declared.ComplianceOption.TheVariants.{NoBand, NoReading}
use Rattle.readings.specs.declared.ComplianceOption.TheVariants as how
use Rattle.power.specs.Power.{or_zero, average_of}
use Rattle.readings.specs.Readings as readings
use Rattle.readings.specs.Readings.{per_minute, against, judged, reading_of, compliance_of}
use Rattle.events.specs.Events.{Event, countdown, ftp, events_if}
use Rattle.state.specs.declared.Lap.{Lap}
use Rattle.state.specs.declared.Summary.{Summary}
use Rattle.state.specs.declared.Measured.{Measured}
use Rattle.state.specs.declared.Core.{Core}
use Rattle.state.specs.State.{duration_ms, fresh_measured, tallied}
use Rattle.measure.specs.Measure as measure
use Rattle.measure.specs.Measure.{Meter, meter, minute_of, low_by, ramp_target, ramp_part, measured_by, measured_of, twenty_ftp, ramp_ftp, result_by, result_of}
use Rattle.step_end.specs.StepEnd as player
use Rattle.step_end.specs.StepEnd.{Outcome, due_at, countdowns_to, countdowns_of, or_else, measured_after, arrived, after_event, next_to, next_of}
use Rattle.rounds.specs.Rounds.{Riding, riding, advanced, compliance_now}
use Rattle.machine.specs.Machine.{Tallies, Sums, Machine, no_sums, sums_at, greatest, step_of, step_at, newest, is_test, test_in, end_of, twenty, ramp_of, ramp, result, result_in, ftp_after, ftp_events, next_event, ended, turns, reading_for, Judged, is_under, is_in, is_over, is_unread, is_nothing, between, judge, judge_if, judged_by, judged_in, zero_if_absent, last_power}
use Rattle.machine.specs.Runs.{Totals}
use Rattle.machine.specs.ThirdDemand.{is_ramp, is_compared, compared}
use Rattle.machine.proofs.Seconds.{MinuteIs, capped}
use Rattle.machine.proofs.Average.{PowerIs, average-is}
use Rattle.machine.proofs.AtOnce.{Before, tally_by, sums_by, ridden_by}

-- The relation.

pub record SummaryIs (steps position skipped : ℕ) (ftp : Option ℕ) (t : Tallies) (s : Summary) : Type 0 where
  pub targeted : s.targeted_ms ≡ t.targeted
  pub inside : s.in_ms ≡ t.inside
  pub under : s.under_ms ≡ t.under
  pub over : s.over_ms ≡ t.over
  pub unread : s.unread_ms ≡ t.unread
  pub ftp-is : s.ftp ≡ ftp
  pub steps-done : s.steps_done ≡ position
  pub steps-are : s.steps ≡ steps
  pub skipped-are : s.skipped ≡ skipped

pub record MeasuredIs (t : Measured) (watts : List ℕ) (u : Sums) : Type 0 where
  pub sum : t.test_mj ≡ u.sum
  pub time : t.test_ms ≡ u.time
  pub rest : t.minute_rest_ms ≡ u.rest
  pub small : u.rest < 1000
  pub minute : MinuteIs 60 (minute_of t.ring watts) u.seconds

-- Everything but the step on now. b has the sums of question 13, k the events so far.
pub record Matches (w : Workout) (b : Totals) (k : List Event) (s : Riding) (m : Machine) : Type 0 where
  pub position : s.core.position ≡ m.step.position
  pub time : s.core.lap.step_ms ≡ m.step.time
  pub extra : s.core.lap.extra_s ≡ m.step.extra
  pub summary : SummaryIs (played_len w) m.step.position m.given.skipped m.given.ftp m.tallies s.core.summary
  pub measured : MeasuredIs s.core.measured s.watts m.sums
  pub power : PowerIs s.core.readings.power m.readings
  pub last : s.core.readings.last_sample ≡ newest m.readings
  pub events : m.given.events ≡ k
  pub total-ms : s.core.total_ms.0 ≡ b.ms
  pub total-mm : s.core.total_mm.0 ≡ b.mm

-- The step on now is a step of the workout.
pub record On (s : Step) (c : Core) : Type 0 where
  pub length : c.on.length ≡ s.length
  pub target : c.on.target ≡ s.target
  pub intensity : c.on.intensity ≡ s.intensity

pub record Riding-on (s : Step) (c : Core) (m : Machine) : Type 0 where
  pub done : c.done ≡ false
  pub finished : c.summary.finished ≡ false
  pub on : On s c
  pub before : Before s.length m.step.extra m.step.time

-- The step on now, or that all are done.
abbrev pub Now : Option Step → Core → Machine → Type 0
Now None c m = (c.done ≡ true) × (c.summary.finished ≡ true)
Now (Some s) c m = Riding-on s c m

pub record Alike (w : Workout) (b : Totals) (k : List Event) (s : Riding) (m : Machine) : Type 0 where
  pub matches : Matches w b k s m
  pub now : Now (step_at w m.step.position) s.core m

-- A step that the demand takes: some time or open, no ramp, and a heart zone from 1 to 5.
abbrev pub Lasting : Length → Type 0
Lasting (Time secs) = 0 < secs
Lasting (Distance metres) = ⊥
Lasting Open = Unit

abbrev pub Zoned : Target → Type 0
Zoned (HeartZone zone) = (1 ≤ zone) × (zone ≤ 5)
Zoned Free = Unit
Zoned (Ftp low high) = Unit
Zoned (Watts low high) = Unit
Zoned (Lthr low high) = Unit
Zoned (Cadence low high) = Unit
Zoned (Ramp start step every) = Unit
Zoned (FtpRamp start step every) = Unit

pub record Plain (s : Step) : Type 0 where
  pub lasting : Lasting s.length
  pub flat : is_ramp s.target ≡ false
  pub zoned : Zoned s.target

-- A part of a step.

-- What the player and the machine each say of a reading is the same.

-- the player's answer in the machine's words
abbrev judged_as : ComplianceOption → Judged
judged_as NoBand = is_nothing
judged_as NoReading = is_unread
judged_as (how.Some Under) = is_under
judged_as (how.Some In) = is_in
judged_as (how.Some Over) = is_over

law-turns : (r : Option ℕ) → per_minute r ≡ turns r
law-turns None = refl
law-turns (Some tenths) = refl

law-between : (low high value : ℕ) → judged_as (how.Some (against low high value)) ≡ between low high value
law-between low high value = by (ltb value low) (ltb high value) refl refl
  where
    by : (a b : Bool) → ltb value low ≡ a → ltb high value ≡ b → judged_as (how.Some (cond a Under (cond b Over In))) ≡ cond (leb low value && leb value high) is_in (cond a is_under is_over)
    by true b e f = rw (lt-leb low value (ltb-true value low e)) refl
    by false true e f = rw (le-leb low value (ltb-false value low e), lt-leb value high (ltb-true high value f)) refl
    by false false e f = rw (le-leb low value (ltb-false value low e), le-leb value high (ltb-false high value f)) refl

zone-same : (zone : ℕ) → 1 ≤ zone → zone ≤ 5 → clamped zone 5 ≡ zone
zone-same zone h g = omega arith

law-judge : (target : Target) (b : Band) (p : TrainingProfile) (value : ℕ) → Zoned target → judged_as (how.Some (readings.compliance_by (readings.compared target b p value))) ≡ judge target b p value
law-judge Free b p value z = law-between b.low b.high value
law-judge (Ftp low high) b p value z = law-between b.low b.high value
law-judge (Watts low high) b p value z = law-between b.low b.high value
law-judge (HeartZone zone) b p value z = rw (zone-same zone z.0 z.1) (law-between zone zone (heart_zone p value))
law-judge (Lthr low high) b p value z = law-between b.low b.high value
law-judge (Cadence low high) b p value z = law-between b.low b.high value
law-judge (Ramp start step every) b p value z = law-between b.low b.high value
law-judge (FtpRamp start step every) b p value z = law-between b.low b.high value

reading-is : (metric : Metric) (r : Readings) (samples : List Sample) → PowerIs r.power samples → r.last_sample ≡ newest samples
    → reading_of metric r ≡ reading_for metric samples
unfolding reading_of reading_for
reading-is metrics.Power r samples P e = average-is r.power samples P
reading-is metrics.Heart r samples P e = ap (λ (x : Sample). x.heart_bpm) e
reading-is metrics.Cadence r samples P e = ap (λ (x : Sample). per_minute x.cadence_tenths) e ∙ law-turns (newest samples).cadence_tenths

judged-is : (target : Target) (b : Band) (p : TrainingProfile) (r : Option ℕ) → Zoned target → judged_as (judged target b p r) ≡ judge_if target b p r
unfolding judged
judged-is target b p None z = refl
judged-is target b p (Some value) z = law-judge target b p value z

compliance-is : (target : Target) (band : Option Band) (p : TrainingProfile) (r : Readings) (samples : List Sample) → Zoned target → PowerIs r.power samples
    → r.last_sample ≡ newest samples → judged_as (compliance_of target band p r) ≡ judged_by target band p samples
unfolding compliance_of
compliance-is target None p r samples z P e = refl
compliance-is target (Some band) p r samples z P e =
    judged-is target band p (reading_of band.metric r) z ∙ ap (judge_if target band p) (reading-is band.metric r samples P e)

tallied-is : (c : ComplianceOption) (n steps position skipped : ℕ) (ftp : Option ℕ) (t : Tallies) (s : Summary)
    → SummaryIs steps position skipped ftp t s → SummaryIs steps position skipped ftp (tally_by (judged_as c) n t) (tallied c n s)
unfolding tallied tally_by
tallied-is NoBand n steps position skipped ftp t s R = R
tallied-is NoReading n steps position skipped ftp t s R =
    record {
      targeted = R.targeted;
      inside = R.inside;
      under = R.under;
      over = R.over;
      unread = omega (arith, R.unread);
      ftp-is = R.ftp-is;
      steps-done = R.steps-done;
      steps-are = R.steps-are;
      skipped-are = R.skipped-are;
    }
tallied-is (how.Some Under) n steps position skipped ftp t s R =
    record {
      targeted = omega (arith, R.targeted);
      inside = R.inside;
      under = omega (arith, R.under);
      over = R.over;
      unread = R.unread;
      ftp-is = R.ftp-is;
      steps-done = R.steps-done;
      steps-are = R.steps-are;
      skipped-are = R.skipped-are;
    }
tallied-is (how.Some In) n steps position skipped ftp t s R =
    record {
      targeted = omega (arith, R.targeted);
      inside = omega (arith, R.inside);
      under = R.under;
      over = R.over;
      unread = R.unread;
      ftp-is = R.ftp-is;
      steps-done = R.steps-done;
      steps-are = R.steps-are;
      skipped-are = R.skipped-are;
    }
tallied-is (how.Some Over) n steps position skipped ftp t s R =
    record {
      targeted = omega (arith, R.targeted);
      inside = R.inside;
      under = R.under;
      over = omega (arith, R.over);
      unread = R.unread;
      ftp-is = R.ftp-is;
      steps-done = R.steps-done;
      steps-are = R.steps-are;
      skipped-are = R.skipped-are;
    }

pub tallied-finished : (c : ComplianceOption) (n : ℕ) (s : Summary) → (tallied c n s).finished ≡ s.finished
unfolding tallied
tallied-finished NoBand n s = refl
tallied-finished NoReading n s = refl
tallied-finished (how.Some Under) n s = refl
tallied-finished (how.Some In) n s = refl
tallied-finished (how.Some Over) n s = refl

measured-is : (test : Test) (w n low : ℕ) (t : Measured) (watts : List ℕ) (u : Sums) → MeasuredIs t watts u
    → MeasuredIs (measured_by test w n low (meter t watts)).measured (measured_by test w n low (meter t watts)).watts (sums_by test w n u)
unfolding sums_by ramp_part
measured-is tests.None w n low t watts u R = R
measured-is Twenty w n low t watts u R =
    record { sum = ap (λ (x : ℕ). x + w * n) R.sum; time = omega (arith, R.time); rest = R.rest; small = R.small; minute = R.minute }
measured-is tests.Ramp w n low t watts u R =
    rw R.rest
    (record {
      sum = R.sum;
      time = R.time;
      rest = refl;
      small = omega arith;
      minute = capped 59 ((u.rest + n) / 1000) w (minute_of t.ring watts) u.seconds R.minute;
    })

test-is : (i : Intensity) (test : Test) → measure.test_in i test ≡ cond (is_test i) test tests.None
test-is Warmup test = refl
test-is Work test = refl
test-is Recovery test = refl
test-is Cooldown test = refl
test-is intensities.Test test = refl

or_same : (r : Option ℕ) → or_zero r ≡ zero_if_absent r
or_same None = refl
or_same (Some power) = refl

module _ (w : Workout) (b : Totals) (k : List Event) (s : Step) (x : Riding) (m : Machine) (R : Matches w b k x m) (o : On s x.core) where
  compliance-now : (p : TrainingProfile) → Zoned s.target → judged_as (compliance_now p x.core) ≡ judged_in p s m
  compliance-now p z =
      ap₂ (λ (target : Target) (time : ℕ). judged_as (compliance_of target (band_of target p (time / 1000)) p x.core.readings)) o.target R.time
      ∙ compliance-is s.target (band_of s.target p (m.step.time / 1000)) p x.core.readings m.readings z R.power R.last

  test-now : measure.test_in x.core.on.intensity w.test ≡ test_in w s
  test-now = ap (λ (i : Intensity). measure.test_in i w.test) o.intensity ∙ test-is s.intensity w.test

  power-now : or_zero x.core.readings.last_sample.power_watts ≡ last_power m.readings
  power-now = ap (λ (r : Sample). or_zero r.power_watts) R.last ∙ or_same (newest m.readings).power_watts

  measured-now : (p : TrainingProfile) (n low : ℕ)
      → MeasuredIs
      (measured_by (measure.test_in x.core.on.intensity w.test) (or_zero x.core.readings.last_sample.power_watts) n low (meter x.core.measured x.watts)).measured
      (measured_by (measure.test_in x.core.on.intensity w.test) (or_zero x.core.readings.last_sample.power_watts) n low (meter x.core.measured x.watts)).watts
      (sums_by (test_in w s) (last_power m.readings) n m.sums)
  measured-now p n low =
      subst (λ (y : Meter). MeasuredIs y.measured y.watts (sums_by (test_in w s) (last_power m.readings) n m.sums))
      (sym (ap₂ (λ (test : Test) (watts : ℕ). measured_by test watts n low (meter x.core.measured x.watts)) test-now power-now))
      (measured-is (test_in w s) (last_power m.readings) n low x.core.measured x.watts m.sums R.measured)

  pub advanced-is : (p : TrainingProfile) (n d : ℕ) → Zoned s.target → Matches w b k (advanced w.test p n d x) (ridden_by w p s n m)
  unfolding advanced ridden_by measured_of
  advanced-is p n d z =
      record {
        position = R.position;
        time = omega (arith, R.time);
        extra = R.extra;
        summary =
            subst (λ (j : Judged). SummaryIs (played_len w) m.step.position m.given.skipped m.given.ftp (tally_by j n m.tallies) (tallied (compliance_now p x.core) n x.core.summary))
            (compliance-now p z)
            (tallied-is (compliance_now p x.core) n (played_len w) m.step.position m.given.skipped m.given.ftp m.tallies x.core.summary R.summary);
        measured =
            measured-now p n
            (low_by (ramp_target (ramp_option x.core.on.target p) ((x.core.lap.step_ms + n) / 1000)) (average_of x.core.readings.power) n x.core.measured.ramp_low_ms);
        power = R.power;
        last = R.last;
        events = R.events;
        total-ms = R.total-ms;
        total-mm = R.total-mm;
      }

-- Events of kinds 1 to 3.

pub compared-append : (xs ys : List Event) → compared (xs ++ ys) ≡ compared xs ++ compared ys
unfolding compared
compared-append [] ys = refl
compared-append (e ∷ xs) ys =
    ap (λ (l : List Event). cond (is_compared e) (e ∷ l) l) (compared-append xs ys) ∙ by (is_compared e)
  where
    by : (b : Bool) → cond b (e ∷ (compared xs ++ compared ys)) (compared xs ++ compared ys) ≡ cond b (e ∷ compared xs) (compared xs) ++ compared ys
    by true = refl
    by false = refl

countdown-left : (b : Bool) (secs : ℕ) → compared (events_if b (countdown secs)) ≡ []
unfolding compared
countdown-left true secs = refl
countdown-left false secs = refl

pub countdowns-left : (l : Length) (lap : Lap) (before : ℕ) → compared (countdowns_of l lap before) ≡ []
unfolding countdowns_to
countdowns-left (Time secs) lap before =
    let due : ℕ → Bool = λ n. due_at n (duration_ms secs lap) before lap.step_ms in
    let at : ℕ → List Event = λ n. events_if (due n) (countdown n) in
    compared-append (at 3 ++ at 2) (at 1)
    ∙ ap₂ (λ (x y : List Event). x ++ y)
    (compared-append (at 3) (at 2) ∙ ap₂ (λ (x y : List Event). x ++ y) (countdown-left (due 3) 3) (countdown-left (due 2) 2))
    (countdown-left (due 1) 1)
countdowns-left (Distance metres) lap before = unfold compared in refl
countdowns-left Open lap before = unfold compared in refl

end-events : (result : Option ℕ) (o : Option Played) (n : ℕ)
    → compared (player.ftp_events result ++ (after_event (is_some o) n ∷ [])) ≡ ftp_events result ++ (next_event (step_of o) n ∷ [])
unfolding compared
end-events None (Some played) n = refl
end-events None None n = refl
end-events (Some watts) (Some played) n = refl
end-events (Some watts) None n = refl

pub join-events : (k es fs : List Event) → (k ++ compared es) ++ compared fs ≡ k ++ compared (es ++ fs)
join-events k es fs = append_assoc k (compared es) (compared fs) ∙ ap (λ (x : List Event). k ++ x) (sym (compared-append es fs))

-- The test's result.

twenty-is : (l : Length) (lap : Lap) (extra : ℕ) (t : Measured) (watts : List ℕ) (u : Sums) → lap.extra_s ≡ extra → MeasuredIs t watts u
    → measure.twenty_by l lap t ≡ twenty l extra u
unfolding twenty_ftp twenty
twenty-is (Time secs) lap extra t watts u e R =
    let end : duration_ms secs lap ≡ end_of secs extra = omega (arith, e) in
    rw (end, R.time, R.sum) refl
twenty-is (Distance metres) lap extra t watts u e R = refl
twenty-is Open lap extra t watts u e R = refl

ramp-is : (o : Option ℕ) → ramp_ftp o ≡ ramp_of o
ramp-is None = refl
ramp-is (Some best) = refl

result-by : (test : Test) (l : Length) (lap : Lap) (marked : Bool) (extra : ℕ) (t : Measured) (watts : List ℕ) (u : Sums) → lap.extra_s ≡ extra
    → MeasuredIs t watts u → result_by test l lap marked t ≡ result test l extra marked u
unfolding result ramp
result-by tests.None l lap marked extra t watts u e R = refl
result-by Twenty l lap marked extra t watts u e R = ap (cond marked None) (twenty-is l lap extra t watts u e R)
result-by tests.Ramp l lap marked extra t watts u e R = ramp-is t.ring.best_minute ∙ ap ramp_of R.minute.best

module _ (w : Workout) (b : Totals) (k : List Event) (s : Step) (x : Riding) (m : Machine) (R : Matches w b k x m) (o : On s x.core) where
  result-is : (marked : Bool) → result_of w.test x.core.on x.core.lap marked x.core.measured ≡ result_in w s marked m
  unfolding result_of
  result-is marked =
      ap₂ (λ (test : Test) (l : Length). result_by test l x.core.lap marked x.core.measured) (test-now w b k s x m R o) o.length
      ∙ result-by (test_in w s) s.length x.core.lap marked m.step.extra x.core.measured x.watts m.sums R.extra R.measured

-- The sums as a step starts.

empty-is : (t : Measured) (watts : List ℕ) (u : Sums) → MeasuredIs t watts u → MeasuredIs (fresh_measured t.ramp_low_ms) watts no_sums
empty-is t watts u R =
    record {
      sum = refl;
      time = refl;
      rest = refl;
      small = omega arith;
      minute = record { size = R.minute.size; place = omega arith; full = refl; same = refl; best = unfold greatest in refl };
    }

start_is : (o : Option Played) (t : Measured) (watts : List ℕ) (u : Sums) → MeasuredIs t watts u
    → MeasuredIs (measured_after o t) watts (sums_at (step_of o) u)
start_is (Some played) t watts u R = empty-is t watts u R
start_is None t watts u R = R

-- A step's end.

pub before-start : (l : Length) → Lasting l → Before l 0 0
before-start (Time secs) h = omega arith
before-start (Distance metres) h = absurd h
before-start Open h = tt

ftp-after : (result before : Option ℕ) → or_else result before ≡ ftp_after result before
ftp-after None before = refl
ftp-after (Some watts) before = refl

module _ (w : Workout) (each : (i : ℕ) (s : Step) → step_at w i ≡ Some s → Plain s) where
  now-next : (o : Option Played) (marked : Bool) (r : Option ℕ) (c : Core) (m : Machine) (s : Step)
      → ((t : Step) → step_of o ≡ Some t → Plain t)
      → Now (step_of o) (arrived o marked r c) (ended w s marked m)
  unfolding arrived ended
  now-next (Some played) marked r c m s h =
      record {
        done = refl;
        finished = refl;
        on = record { length = refl; target = refl; intensity = refl };
        before = before-start played.step.length (h played.step refl).lasting;
      }
  now-next None marked r c m s h = (refl, refl)

  module _ (b : Totals) (k : List Event) (s : Step) (marked : Bool) (x : Riding) (m : Machine) (R : Matches w b k x m) (o : On s x.core) where
    abbrev next : Option Played
    next = played_of w (m.step.position + 1)

    abbrev outcome : Outcome
    outcome = next_to next marked (result_in w s marked m) x.core

    outcome-is : next_of w marked x.core ≡ outcome
    unfolding next_of
    outcome-is =
        ap₂ (λ (n : ℕ) (r : Option ℕ). next_to (played_of w (n + 1)) marked r x.core) R.position (result-is w b k s x m R o marked)

    next-matches : Matches w b (k ++ compared outcome.events) (riding outcome.core x.watts) (ended w s marked m)
    unfolding arrived ended step_at
    next-matches =
        record {
          position = ap (λ (n : ℕ). n + 1) R.position;
          time = refl;
          extra = refl;
          summary =
              record {
                targeted = R.summary.targeted;
                inside = R.summary.inside;
                under = R.summary.under;
                over = R.summary.over;
                unread = R.summary.unread;
                ftp-is = ap (or_else (result_in w s marked m)) R.summary.ftp-is ∙ ftp-after (result_in w s marked m) m.given.ftp;
                steps-done = ap (λ (n : ℕ). n + 1) R.summary.steps-done;
                steps-are = R.summary.steps-are;
                skipped-are = ap (λ (n : ℕ). n + cond marked 1 0) R.summary.skipped-are;
              };
          measured = start_is next x.core.measured x.watts m.sums R.measured;
          power = R.power;
          last = R.last;
          events =
              ap₂ (λ (x y : List Event). x ++ y) R.events
              (sym (ap (λ (n : ℕ). compared (player.ftp_events (result_in w s marked m) ++ (after_event (is_some next) (n + 1) ∷ []))) R.position
              ∙ end-events (result_in w s marked m) next (m.step.position + 1)));
          total-ms = R.total-ms;
          total-mm = R.total-mm;
        }

    next-now : Now (step_at w (ended w s marked m).step.position) outcome.core (ended w s marked m)
    unfolding ended step_at
    next-now = now-next next marked (result_in w s marked m) x.core m s (each (m.step.position + 1))

    pub next-is : Alike w b (k ++ compared (next_of w marked x.core).events) (riding (next_of w marked x.core).core x.watts) (ended w s marked m)
    next-is =
        subst (λ (y : Outcome). Alike w b (k ++ compared y.events) (riding y.core x.watts) (ended w s marked m)) (sym outcome-is)
        (record { matches = next-matches; now = next-now })
