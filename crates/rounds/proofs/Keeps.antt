-- A part, and a step's end, keep what is known of a core that stands.
use Rattle.std.specs.Prelude.{None, Option, Some, is_some}
use mathlib.Core.Path.{◌≡◌, refl, sym, ap, subst, ◌∙◌}
use mathlib.Core.Bool.{Bool, true, false, cond, not}
use Prim.Native.Nat.{ℕ, zero, suc, ◌+◌, ◌-◌, ◌*◌, ◌/◌, ◌≤◌, ◌<◌, min}
use native.Mathlib.Omega.{arith}
use lib.Dec.{ltb, leb, eqb}
use lib.ListN.{length}
use borrow.Author.Tests.{ltb-true, ltb-false, leb-true, leb-false, lt-ltb, le-leb, lt-leb, eq-eqb}
use Rattle.common.proofs.Tests.{cond-by, and_both}
use Rattle.zones.specs.declared.TrainingProfile.{TrainingProfile}
use Rattle.model.specs.declared.Length.{Length}
use Rattle.model.specs.declared.Length.TheVariants.{Time, Distance, Open}
use Rattle.model.specs.declared.Test.{Test}
use Rattle.model.specs.declared.Test.TheVariants as tests
use Rattle.model.specs.declared.Workout.{Workout}
use Rattle.order.specs.declared.Played.{Played}
use Rattle.order.specs.Order.{played_of, played_len, played_in}
use Rattle.order.proofs.Within.{playing-order}
use Rattle.validation.proofs.Passes.{Passes, passes, played-sound}
use Rattle.validation.specs.Sound.{length_ok}
use Rattle.readings.specs.declared.Compliance.TheVariants.{Under, In, Over}
use Rattle.readings.specs.declared.ComplianceOption.{ComplianceOption}
use Rattle.readings.specs.declared.ComplianceOption.TheVariants.{NoBand, NoReading}
use Rattle.readings.specs.declared.ComplianceOption.TheVariants as how
use Rattle.state.specs.declared.Summary.{Summary}
use Rattle.state.specs.declared.StepNow.{StepNow}
use Rattle.state.specs.declared.Measured.{Measured}
use Rattle.state.specs.declared.Core.{Core}
use Rattle.state.specs.State.{tallied, step_now, fresh_lap, SmallEnergy}
use Rattle.measure.specs.Measure.{Minute, Meter, meter, minute_of, pushed, pushes, ramp_part, measured_by, measured_of, low_by, ramp_target, test_in}
use Rattle.measure.proofs.Laws.{place-next, places-kept}
use Rattle.model.specs.Target.{ramp_option}
use Rattle.power.specs.Power.{or_zero, average_of}
use Rattle.step_end.specs.StepEnd.{arrived, next_of, step_after, is_over}
use Rattle.steps.specs.Bytes.{intensity_kind, length_kind, length_value, target_kind, first_value, second_value, third_value}
use Rattle.standing.specs.Standing.{same_step, same_length, same_target, on_place, below_end, lap_ok}
use Rattle.standing.specs.Facts.{Within, Stands}
use Rattle.rounds.specs.Rounds.{Riding, advanced, closed, closed_by, meter_after, compliance_now}
use Rattle.rounds.proofs.Parts.{not-over-below}

-- The workout.

-- A step compared with itself.

eqb_same : (n : ℕ) → eqb n n ≡ true
eqb_same n = eq-eqb n n refl

pub same-itself : (s : StepNow) → same_step s s ≡ true
unfolding same_step same_length same_target
same-itself s =
    rw (eqb_same (length_kind s.length), eqb_same (length_value s.length), eqb_same (target_kind s.target), eqb_same (first_value s.target), eqb_same (second_value s.target), eqb_same (third_value s.target), eqb_same (intensity_kind s.intensity), eqb_same s.index, eqb_same s.repetition, eqb_same s.of)

-- A part.

-- the tallies' sum is the targeted time, before and after
tally-sum : (o : ComplianceOption) (ms : ℕ) (s : Summary) → s.in_ms + s.under_ms + s.over_ms ≡ s.targeted_ms
    → (tallied o ms s).in_ms + (tallied o ms s).under_ms + (tallied o ms s).over_ms ≡ (tallied o ms s).targeted_ms
unfolding tallied
tally-sum NoBand ms s h = h
tally-sum NoReading ms s h = h
tally-sum (how.Some Under) ms s h = omega arith
tally-sum (how.Some In) ms s h = omega arith
tally-sum (how.Some Over) ms s h = omega arith

-- what a part leaves of the summary
pub record Tallied (ms : ℕ) (s t : Summary) : Type 0 where
  pub targeted : t.targeted_ms + t.unread_ms ≤ s.targeted_ms + s.unread_ms + ms
  pub done : t.steps_done ≡ s.steps_done
  pub steps : t.steps ≡ s.steps
  pub skipped : t.skipped ≡ s.skipped
  pub finished : t.finished ≡ s.finished

tally-keeps : (o : ComplianceOption) (ms : ℕ) (s : Summary) → Tallied ms s (tallied o ms s)
unfolding tallied
tally-keeps NoBand ms s = record { targeted = omega arith; done = refl; steps = refl; skipped = refl; finished = refl }
tally-keeps NoReading ms s = record { targeted = omega arith; done = refl; steps = refl; skipped = refl; finished = refl }
tally-keeps (how.Some Under) ms s = record { targeted = omega arith; done = refl; steps = refl; skipped = refl; finished = refl }
tally-keeps (how.Some In) ms s = record { targeted = omega arith; done = refl; steps = refl; skipped = refl; finished = refl }
tally-keeps (how.Some Over) ms s = record { targeted = omega arith; done = refl; steps = refl; skipped = refl; finished = refl }

-- the minute after some seconds
pub record MinuteKept (m m' : Minute) : Type 0 where
  pub place : m'.ring.minute_at < 60
  pub long : m'.ring.minute_len ≤ 60
  pub places : length m'.watts ≡ length m.watts

long_kept : (m : Minute) (w : ℕ) → (pushed 60 w m).ring.minute_len ≤ 60
unfolding pushed
long_kept m w = omega arith

pushes-keep : (n w : ℕ) (m : Minute) → m.ring.minute_at < 60 → m.ring.minute_len ≤ 60 → MinuteKept m (pushes 60 n w m)
unfolding pushes
pushes-keep zero w m h k = record { place = h; long = k; places = refl }
pushes-keep (suc n) w m h k =
    let r : MinuteKept (pushed 60 w m) (pushes 60 n w (pushed 60 w m)) = pushes-keep n w (pushed 60 w m) (place-next m w) (long_kept m w) in
    record { place = r.place; long = r.long; places = r.places ∙ places-kept m w }

-- what a part leaves of the test's numbers
pub record MeterKept (ms : ℕ) (m m' : Meter) : Type 0 where
  pub place : m'.measured.ring.minute_at < 60
  pub long : m'.measured.ring.minute_len ≤ 60
  pub places : length m'.watts ≡ length m.watts
  pub rest : m'.measured.minute_rest_ms < 1000
  pub low : m'.measured.ramp_low_ms ≤ m.measured.ramp_low_ms + ms
  pub time : m'.measured.test_ms ≤ m.measured.test_ms + ms

low-within : (target : ℕ) (o : Option ℕ) (ms low : ℕ) → low_by target o ms low ≤ low + ms
low-within target None ms low = omega arith
low-within target (Some watts) ms low = cond-by (λ (n : ℕ). n ≤ low + ms) (leb (target * 90) (watts * 100)) (λ _. omega arith) (λ _. omega arith)

measured-keeps : (t : Test) (w ms low : ℕ) (m : Meter) → m.measured.ring.minute_at < 60 → m.measured.ring.minute_len ≤ 60
    → m.measured.minute_rest_ms < 1000 → low ≤ m.measured.ramp_low_ms + ms → MeterKept ms m (measured_by t w ms low m)
unfolding ramp_part
measured-keeps tests.None w ms low m h k r l = record { place = h; long = k; places = refl; rest = r; low = omega arith; time = omega arith }
measured-keeps tests.Twenty w ms low m h k r l = record { place = h; long = k; places = refl; rest = r; low = omega arith; time = omega arith }
measured-keeps tests.Ramp w ms low m h k r l =
    let q : MinuteKept (minute_of m.measured.ring m.watts) (pushes 60 (min ((m.measured.minute_rest_ms + ms) / 1000) 60) w (minute_of m.measured.ring m.watts)) = pushes-keep (min ((m.measured.minute_rest_ms + ms) / 1000) 60) w (minute_of m.measured.ring m.watts) h k in
    record { place = q.place; long = q.long; places = q.places; rest = omega arith; low = l; time = omega arith }

module _ (t : Test) (p : TrainingProfile) (ms mm : ℕ) (s : Riding) (x y : ℕ) (w : Workout) (h : Within x y w s.core) where
  pub meter-keeps : MeterKept ms (meter s.core.measured s.watts) (meter_after t p ms s)
  unfolding measured_of
  meter-keeps =
      measured-keeps (test_in s.core.on.intensity t) (or_zero s.core.readings.last_sample.power_watts) ms
      (low_by (ramp_target (ramp_option s.core.on.target p) ((s.core.lap.step_ms + ms) / 1000)) (average_of s.core.readings.power) ms s.core.measured.ramp_low_ms)
      (meter s.core.measured s.watts) h.place h.long h.rest
      (low-within (ramp_target (ramp_option s.core.on.target p) ((s.core.lap.step_ms + ms) / 1000)) (average_of s.core.readings.power) ms s.core.measured.ramp_low_ms)

  -- what is known of the core after a part of it
  pub within-advanced : ms ≤ x → mm ≤ y → SmallEnergy (meter_after t p ms s).measured
      → Within (x - ms) (y - mm) w (advanced t p ms mm s).core
  unfolding advanced on_place
  within-advanced hx hy energy =
      let c : Core = s.core in
      let k : MeterKept ms (meter c.measured s.watts) (meter_after t p ms s) = meter-keeps in
      let u : Tallied ms c.summary (tallied (compliance_now p c) ms c.summary) = tally-keeps (compliance_now p c) ms c.summary in
      record {
        valid = h.valid;
        steps = h.steps;
        summary_steps = u.steps ∙ h.summary_steps;
        steps-done = u.done ∙ h.steps-done;
        skipped = omega (arith, u.skipped, h.skipped);
        position = h.position;
        done = h.done;
        finished = u.finished ∙ h.finished;
        step = h.step;
        tallies = tally-sum (compliance_now p c) ms c.summary h.tallies;
        targeted = omega (arith, u.targeted, h.targeted);
        step-ms = omega (arith, h.step-ms);
        step-mm = omega (arith, h.step-mm);
        energy = energy;
        test-ms = omega (arith, k.time, h.test-ms);
        low = omega (arith, k.low, h.low);
        rest = k.rest;
        place = k.place;
        long = k.long;
        next = h.next;
        cadence = h.cadence;
        total-ms = h.total-ms;
        total-mm = h.total-mm;
      }

-- A step's end.

-- a fresh lap is below the end of a sound step
pub fresh-below : (l : Length) → length_ok l ≡ true → below_end l fresh_lap ≡ true
fresh-below (Time secs) h = let some : 0 < secs = ltb-true 0 secs h in lt-ltb 0 ((secs + 0) * 1000) (omega arith)
fresh-below (Distance metres) h = let some : 100 ≤ metres = leb-true 100 metres h in lt-ltb 0 (min (metres + 0) 4294967295 * 1000) (omega arith)
fresh-below Open h = refl

fresh-lap : (found : Option Played) (on : StepNow) → ((is_some found) ≡ true → length_ok (played_in found).step.length ≡ true)
    → lap_ok (not (is_some found)) (step_after found on).length fresh_lap ≡ true
fresh-lap found on h = at (is_some found) refl
  where
    at : (b : Bool) → is_some found ≡ b → lap_ok (not b) (cond b (step_now (played_in found)) on).length fresh_lap ≡ true
    at true e = rw (fresh-below (played_in found).step.length (h e))
    at false e = refl

next-step : (w : Workout) (n : ℕ) (found : Option Played) (on : StepNow) → found ≡ played_of w (n + 1) → same_step on (step_now (played_in (played_of w n))) ≡ true
    → same_step (step_after found on) (step_now (played_in (played_of w (cond (not (is_some found)) (n + 1 - 1) (n + 1))))) ≡ true
next-step w n found on e h = at (is_some found)
  where
    back : n + 1 - 1 ≡ n
    back = omega arith

    at : (b : Bool) → same_step (cond b (step_now (played_in found)) on) (step_now (played_in (played_of w (cond (not b) (n + 1 - 1) (n + 1))))) ≡ true
    at true = rw (← e) (same-itself (step_now (played_in found)))
    at false = rw back h

-- the place of the step on now, unless done
not-done-place : (c : Core) → c.done ≡ false → on_place c ≡ c.position
unfolding on_place
not-done-place c d = ap (λ (b : Bool). cond b (c.position - 1) c.position) d

not-ltb : (a b : ℕ) → not (ltb a b) ≡ leb b a
not-ltb a b = at (ltb a b) refl
  where
    at : (t : Bool) → ltb a b ≡ t → not t ≡ leb b a
    at true e = sym (lt-leb b a (ltb-true a b e))
    at false e = sym (le-leb b a (ltb-false a b e))

pub not-done-below : (x y : ℕ) (w : Workout) (c : Core) → Within x y w c → c.done ≡ false → c.position < played_len w
not-done-below x y w c h d = leb-false (played_len w) c.position (sym h.done ∙ d)

module _ (x y : ℕ) (w : Workout) (skipped : Bool) (c : Core) (h : Within x y w c) (d : c.done ≡ false) where
  pub next-stands : Stands x y w (next_of w skipped c).core
  unfolding next_of arrived on_place
  next-stands =
      let v : Passes w = passes w h.valid in
      let below : c.position < played_len w = not-done-below x y w c h d in
      let found : Option Played = played_of w (c.position + 1) in
      let f : is_some found ≡ ltb (c.position + 1) (played_len w) = playing-order.played_below w v.blocks (c.position + 1) in
      record {
        within =
            record {
              valid = h.valid;
              steps = h.steps;
              summary_steps = h.summary_steps;
              steps-done = omega (arith, h.steps-done);
              skipped = cond-by (λ (n : ℕ). c.summary.skipped + n ≤ c.position + 1) skipped (λ _. omega (arith, h.skipped)) (λ _. omega (arith, h.skipped));
              position = omega arith;
              done = ap not f ∙ not-ltb (c.position + 1) (played_len w);
              finished = refl;
              step = next_place;
              tallies = h.tallies;
              targeted = h.targeted;
              step-ms = omega (arith, h.step-ms);
              step-mm = omega (arith, h.step-mm);
              energy = cond-by SmallEnergy (is_some found) (λ _. omega arith) (λ _. h.energy);
              test-ms = cond-by (λ (m : Measured). m.test_ms + x ≤ c.total_ms.0) (is_some found) (λ _. omega (arith, h.test-ms)) (λ _. h.test-ms);
              low = cond-by (λ (m : Measured). m.ramp_low_ms + x ≤ c.total_ms.0) (is_some found) (λ _. h.low) (λ _. h.low);
              rest = cond-by (λ (m : Measured). m.minute_rest_ms < 1000) (is_some found) (λ _. omega arith) (λ _. h.rest);
              place = cond-by (λ (m : Measured). m.ring.minute_at < 60) (is_some found) (λ _. omega arith) (λ _. h.place);
              long = cond-by (λ (m : Measured). m.ring.minute_len ≤ 60) (is_some found) (λ _. omega arith) (λ _. h.long);
              next = h.next;
              cadence = h.cadence;
              total-ms = h.total-ms;
              total-mm = h.total-mm;
            };
        lap = fresh-lap found c.on (played-sound w (c.position + 1) v);
      }
    where
      next_place : same_step (step_after (played_of w (c.position + 1)) c.on) (step_now (played_in (played_of w (on_place (next_of w skipped c).core)))) ≡ true
      next_place =
          next-step w c.position (played_of w (c.position + 1)) c.on refl
          (subst (λ (n : ℕ). same_step c.on (step_now (played_in (played_of w n))) ≡ true) (not-done-place c d) h.step)

-- a part that does not end its step leaves it below its end
stay-stands : (x y : ℕ) (w : Workout) (p : TrainingProfile) (c : Core) → Within x y w c → c.done ≡ false → is_over p c ≡ false
    → leb c.lap.extra_s 86400 ≡ true → leb c.lap.extra_m 1000000 ≡ true → Stands x y w c
stay-stands x y w p c h d o s m =
    record {
      within = h;
      lap = subst (λ (b : Bool). lap_ok b c.on.length c.lap ≡ true) (sym d) (and_both (and_both (not-over-below p c o) s) m);
    }

pub closed-stands : (x y : ℕ) (w : Workout) (p : TrainingProfile) (c : Core) → Within x y w c → c.done ≡ false
    → leb c.lap.extra_s 86400 ≡ true → leb c.lap.extra_m 1000000 ≡ true → Stands x y w (closed w p c).core
unfolding closed
closed-stands x y w p c h d s m = at (is_over p c) refl
  where
    at : (b : Bool) → is_over p c ≡ b → Stands x y w (closed_by b w c).core
    at true e = next-stands x y w false c h d
    at false e = stay-stands x y w p c h d e s m
