-- `machine::under_band` meets its contract: each millisecond of the machine and each part of a ride adds its time where there is a band.
use Rattle.std.specs.Prelude.{Err, None, Ok, Result, Some, ⊤, Option}
use mathlib.Core.Path.{◌≡◌, refl, ap, ◌∙◌}
use mathlib.Core.Bool.{Bool, true, false, cond, ◌&&◌}
use mathlib.Core.List.{List, [], ◌∷◌}
use Prim.Native.Nat.{ℕ, zero, suc, ◌+◌, ◌/◌}
use native.Mathlib.Omega.{arith}
use lib.Dec.{ltb, leb}
use Rattle.common.proofs.Tests.{cond-by}
use Rattle.refusal.specs.declared.Refusal.{Refusal}
use Rattle.zones.specs.declared.TrainingProfile.{TrainingProfile}
use Rattle.zones.specs.Zones.{heart_zone}
use Rattle.model.specs.declared.Band.{Band}
use Rattle.model.specs.declared.Step.{Step}
use Rattle.model.specs.declared.Target.{Target}
use Rattle.model.specs.declared.Target.TheVariants.{Free, Ftp, Watts, HeartZone, Lthr, Cadence, Ramp, FtpRamp}
use Rattle.model.specs.declared.Test.{Test}
use Rattle.model.specs.declared.Workout.{Workout}
use Rattle.model.specs.Target.{band_of}
use Rattle.readings.specs.declared.Compliance.{Compliance}
use Rattle.readings.specs.declared.Compliance.TheVariants.{Under, In, Over}
use Rattle.readings.specs.declared.ComplianceOption.TheVariants as how
use Rattle.readings.specs.declared.Readings.{Readings}
use Rattle.readings.specs.declared.Sample.{Sample}
use Rattle.readings.specs.Readings.{reading_of, compared, compliance_by, judged, compliance_of}
use Rattle.state.specs.declared.Summary.{Summary}
use Rattle.state.specs.State.{tallied}
use Rattle.rounds.specs.Rounds.{Riding, advanced}
use Rattle.machine.specs.Machine.{Tallies, Machine, start, step_at, reading, with_extra, ended, skipped, reading_for, is_under, is_in, is_over, between, judge, judge_if, judged_by, tally, ridden, ends_now, closed, millisecond_in, millisecond, milliseconds, summary_of}
use Rattle.machine.specs.Cutting.{Call, read, ride, skip, extend, Piece, CutCall}
use Rattle.machine.specs.Runs.{Progress, begun, read_asks, skip_asks, extra_next, extend_asks, unless_refused, after_call, after_calls, lasts}
use Rattle.machine.specs.Banded.{has_band, banded, banded_ms, call_banded, list_banded, counted, counted_in}
use Rattle.machine.proofs.Pieces.{pieces-at-once}
use Rattle.machine.proofs.Demand.{summary-is}
use Rattle.machine.proofs.under_band.Goals as goal

between-counts : (low high value : ℕ) (t : Tallies) → counted (tally (between low high value) t) ≡ counted t + 1
unfolding tally
between-counts low high value t = by (leb low value && leb value high) (ltb value low)
  where
    by : (a b : Bool) → counted (tally (cond a is_in (cond b is_under is_over)) t) ≡ counted t + 1
    by true b = omega arith
    by false true = omega arith
    by false false = omega arith

judge-counts : (target : Target) (b : Band) (p : TrainingProfile) (value : ℕ) (t : Tallies) → counted (tally (judge target b p value) t) ≡ counted t + 1
judge-counts Free b p value t = between-counts b.low b.high value t
judge-counts (Ftp low high) b p value t = between-counts b.low b.high value t
judge-counts (Watts low high) b p value t = between-counts b.low b.high value t
judge-counts (HeartZone zone) b p value t = between-counts zone zone (heart_zone p value) t
judge-counts (Lthr low high) b p value t = between-counts b.low b.high value t
judge-counts (Cadence low high) b p value t = between-counts b.low b.high value t
judge-counts (Ramp from step every) b p value t = between-counts b.low b.high value t
judge-counts (FtpRamp from step every) b p value t = between-counts b.low b.high value t

reading-counts : (target : Target) (b : Band) (p : TrainingProfile) (r : Option ℕ) (t : Tallies) → counted (tally (judge_if target b p r) t) ≡ counted t + 1
unfolding tally
reading-counts target b p None t = omega arith
reading-counts target b p (Some value) t = judge-counts target b p value t

judged-counts : (target : Target) (b : Option Band) (p : TrainingProfile) (samples : List Sample) (t : Tallies)
    → counted (tally (judged_by target b p samples) t) ≡ counted t + cond (has_band b) 1 0
unfolding tally
judged-counts target None p samples t = omega arith
judged-counts target (Some b) p samples t = reading-counts target b p (reading_for b.metric samples) t

closed-tallies : (w : Workout) (s : Step) (m : Machine) → (closed w s m).tallies ≡ m.tallies
unfolding closed ended
closed-tallies w s m = cond-by (λ (x : Machine). x.tallies ≡ m.tallies) (ends_now s.length m.step.extra m.step.time) (λ _. refl) (λ _. refl)

step_counts : (w : Workout) (p : TrainingProfile) (o : Option Step) (m : Machine)
    → counted (millisecond_in w p o m).tallies ≡ counted m.tallies + banded p o m.step.time
unfolding millisecond_in ridden banded
step_counts w p None m = omega arith
step_counts w p (Some s) m =
    ap counted (closed-tallies w s (ridden w p s m)) ∙ judged-counts s.target (band_of s.target p (m.step.time / 1000)) p m.readings m.tallies

ms-count : (w : Workout) (p : TrainingProfile) (n : ℕ) (m : Machine) → counted (milliseconds w p n m).tallies ≡ counted m.tallies + banded_ms w p n m
unfolding milliseconds banded_ms millisecond
ms-count w p zero m = omega arith
ms-count w p (suc n) m = omega (arith, ms-count w p n (millisecond w p m), step_counts w p (step_at w m.step.position) m)

summary-counts : (w : Workout) (m : Machine) → counted_in (summary_of w m) ≡ counted m.tallies
unfolding summary_of
summary-counts w m = refl

unless-tallies : (answer : Result ⊤ Refusal) (s : Progress) (m : Machine) → m.tallies ≡ s.machine.tallies → (unless_refused answer s m).machine.tallies ≡ s.machine.tallies
unfolding unless_refused
unless-tallies (Ok tt) s m e = e
unless-tallies (Err refusal) s m e = refl

skipped-tallies : (w : Workout) (o : Option Step) (m : Machine) → (skipped w o m).tallies ≡ m.tallies
unfolding skipped ended
skipped-tallies w None m = refl
skipped-tallies w (Some s) m = refl

extra-tallies : (extra : Option ℕ) (m : Machine) → (with_extra extra m).tallies ≡ m.tallies
unfolding with_extra
extra-tallies None m = refl
extra-tallies (Some extra) m = refl

module _ (w : Workout) (p : TrainingProfile) where
  call-counts : (c : Call) (qs : List Piece) (s : Progress) → counted (after_call w p c qs s).machine.tallies ≡ counted s.machine.tallies + call_banded w p c qs s
  unfolding after_call reading
  call-counts (read sample) qs s = omega (arith, ap counted (unless-tallies (read_asks sample) s (reading sample s.machine) refl))
  call-counts (ride ms mm kinds values) qs s =
      ap (λ (m : Machine). counted m.tallies) (pieces-at-once.at_once w p kinds values qs s) ∙ ms-count w p (lasts w p kinds values qs s) s.machine
  call-counts (skip kinds values) qs s =
      omega (
        arith,
        ap counted (unless-tallies (skip_asks w kinds values s) s (skipped w (step_at w s.machine.step.position) s.machine) (skipped-tallies w (step_at w s.machine.step.position) s.machine)),
      )
  call-counts (extend secs metres) qs s =
      omega (
        arith,
        ap counted (unless-tallies (extend_asks w secs s) s (with_extra (extra_next w secs s) s.machine) (extra-tallies (extra_next w secs s) s.machine)),
      )

  list_counts : (l : List CutCall) (s : Progress) → counted (after_calls w p l s).machine.tallies ≡ counted s.machine.tallies + list_banded w p l s
  unfolding after_calls list_banded
  list_counts [] s = omega arith
  list_counts (c ∷ l) s = omega (arith, list_counts l (after_call w p c.call c.pieces s), call-counts c.call c.pieces s)

  from_start : (l : List CutCall) → counted (after_calls w p l begun).machine.tallies ≡ list_banded w p l begun
  unfolding begun start
  from_start l = omega (arith, list_counts l begun)

module _ (target : Target) (p : TrainingProfile) (r : Readings) (ms : ℕ) (s : Summary) where
  compliance-counts : (c : Compliance) → counted_in (tallied (how.Some c) ms s) ≡ counted_in s + ms
  unfolding tallied
  compliance-counts Under = omega arith
  compliance-counts In = omega arith
  compliance-counts Over = omega arith

  read-counts : (b : Band) (reading : Option ℕ) → counted_in (tallied (judged target b p reading) ms s) ≡ counted_in s + ms
  unfolding judged tallied
  read-counts b None = omega arith
  read-counts b (Some value) = compliance-counts (compliance_by (compared target b p value))

  tallied-counts : (b : Option Band) → counted_in (tallied (compliance_of target b p r) ms s) ≡ counted_in s + cond (has_band b) ms 0
  unfolding compliance_of tallied
  tallied-counts None = omega arith
  tallied-counts (Some b) = read-counts b (reading_of b.metric r)

part-counts : (test : Test) (p : TrainingProfile) (ms mm : ℕ) (s : Riding)
    → counted_in (advanced test p ms mm s).core.summary ≡ counted_in s.core.summary + cond (has_band (band_of s.core.on.target p (s.core.lap.step_ms / 1000))) ms 0
unfolding advanced
part-counts test p ms mm s = tallied-counts s.core.on.target p s.core.readings ms s.core.summary (band_of s.core.on.target p (s.core.lap.step_ms / 1000))

pub returns : goal.returns
returns c =
    record {
      of_machine = ms-count;
      of_player =
          λ w p l t ok h i.
          ap counted_in (summary-is w p (record { taken = t; twelve = i.twelve }) ok l i.reads) ∙ summary-counts w (after_calls w p l begun).machine ∙ from_start w p l;
      of_part = part-counts;
    }
