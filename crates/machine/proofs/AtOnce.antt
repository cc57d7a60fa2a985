-- Some milliseconds of the machine at once: within a step, to its end, after the finish; and a sum of milliseconds is one part after
-- the other.
use Rattle.std.specs.Prelude.{Option, None, Some}
use mathlib.Core.Path.{◌≡◌, refl, sym, ap, ◌∙◌}
use mathlib.Core.Bool.{Bool, true, false, cond}
use mathlib.Core.List.{List, ◌++◌}
use Prim.Native.Nat.{ℕ, zero, suc, ◌+◌, ◌*◌, ◌/◌, ◌%◌, ◌≤◌, ◌<◌}
use native.Mathlib.Nat.{zero-add, suc-add}
use native.Mathlib.Omega.{arith}
use lib.Dec.{eqb}
use lib.ListN.{replicate}
use borrow.Author.Tests.{eqb-true, eqb-false, eq-eqb, ne_eqb}
use Rattle.zones.specs.declared.TrainingProfile.{TrainingProfile}
use Rattle.model.specs.declared.Length.{Length}
use Rattle.model.specs.declared.Length.TheVariants.{Time, Distance, Open}
use Rattle.model.specs.declared.Target.{Target}
use Rattle.model.specs.declared.Target.TheVariants.{Free, Ftp, Watts, HeartZone, Lthr, Cadence, Ramp, FtpRamp}
use Rattle.model.specs.declared.Test.{Test}
use Rattle.model.specs.declared.Test.TheVariants.{Twenty}
use Rattle.model.specs.declared.Test.TheVariants as tests
use Rattle.model.specs.declared.Step.{Step}
use Rattle.model.specs.declared.Workout.{Workout}
use Rattle.model.specs.declared.Band.{Band}
use Rattle.model.specs.Target.{band_of}
use Rattle.machine.specs.Machine.{Tallies, Sums, Machine, step_at, test_in, end_of, ended, Judged, is_under, is_in, is_over, is_unread, is_nothing, judged_by, judged_in, tally, last_power, rested, summed, ridden, ends_now, closed, millisecond_in, millisecond, milliseconds}
use Rattle.machine.specs.ThirdDemand.{is_ramp}
use Rattle.machine.proofs.Seconds.{replicate_more}

pub apart : true ≡ false → ⊥
apart e = let z : ◌≡◌ {A = ℕ} 1 0 = ap (λ (b : Bool). cond b 1 0) e in omega arith

-- the band of a target that is no ramp is always the same
pub band-stays : (target : Target) (p : TrainingProfile) (a b : ℕ) → is_ramp target ≡ false → band_of target p a ≡ band_of target p b
unfolding band_of
band-stays Free p a b f = refl
band-stays (Ftp low high) p a b f = refl
band-stays (Watts low high) p a b f = refl
band-stays (HeartZone zone) p a b f = refl
band-stays (Lthr low high) p a b f = refl
band-stays (Cadence low high) p a b f = refl
band-stays (Ramp start step every) p a b f = absurd (apart f)
band-stays (FtpRamp start step every) p a b f = absurd (apart f)

-- Some milliseconds at once.

unfoldable pub tally_by : Judged → ℕ → Tallies → Tallies
tally_by is_under n t = record { targeted = t.targeted + n; inside = t.inside; under = t.under + n; over = t.over; unread = t.unread }
tally_by is_in n t = record { targeted = t.targeted + n; inside = t.inside + n; under = t.under; over = t.over; unread = t.unread }
tally_by is_over n t = record { targeted = t.targeted + n; inside = t.inside; under = t.under; over = t.over + n; unread = t.unread }
tally_by is_unread n t = record { targeted = t.targeted; inside = t.inside; under = t.under; over = t.over; unread = t.unread + n }
tally_by is_nothing n t = t

unfoldable pub sums_by : Test → ℕ → ℕ → Sums → Sums
sums_by tests.None w n u = u
sums_by Twenty w n u = record { sum = u.sum + w * n; time = u.time + n; rest = u.rest; seconds = u.seconds }
sums_by tests.Ramp w n u =
    record { sum = u.sum; time = u.time; rest = (u.rest + n) % 1000; seconds = replicate ((u.rest + n) / 1000) w ++ u.seconds }

unfoldable pub ridden_by : Workout → TrainingProfile → Step → ℕ → Machine → Machine
ridden_by w p s n m =
    record {
      step = record { position = m.step.position; time = m.step.time + n; extra = m.step.extra };
      readings = m.readings;
      tallies = tally_by (judged_in p s m) n m.tallies;
      sums = sums_by (test_in w s) (last_power m.readings) n m.sums;
      given = m.given;
    }

tallies-path : {a b c d e a' b' c' d' e' : ℕ} → a ≡ a' → b ≡ b' → c ≡ c' → d ≡ d' → e ≡ e'
    → ◌≡◌ {A = Tallies}
    (record { targeted = a; inside = b; under = c; over = d; unread = e })
    (record { targeted = a'; inside = b'; under = c'; over = d'; unread = e' })
tallies-path p q r s t = λ i. record { targeted = p i; inside = q i; under = r i; over = s i; unread = t i }

tally-none : (j : Judged) (t : Tallies) → tally_by j 0 t ≡ t
unfolding tally_by
tally-none is_under t = tallies-path (omega arith) refl (omega arith) refl refl
tally-none is_in t = tallies-path (omega arith) (omega arith) refl refl refl
tally-none is_over t = tallies-path (omega arith) refl refl (omega arith) refl
tally-none is_unread t = tallies-path refl refl refl refl (omega arith)
tally-none is_nothing t = refl

tally-more : (j : Judged) (n : ℕ) (t : Tallies) → tally_by j (suc n) t ≡ tally_by j n (tally j t)
unfolding tally_by tally
tally-more is_under n t = tallies-path (omega arith) refl (omega arith) refl refl
tally-more is_in n t = tallies-path (omega arith) (omega arith) refl refl refl
tally-more is_over n t = tallies-path (omega arith) refl refl (omega arith) refl
tally-more is_unread n t = tallies-path refl refl refl refl (omega arith)
tally-more is_nothing n t = refl

sums-path : {a b c a' b' c' : ℕ} {l l' : List ℕ} → a ≡ a' → b ≡ b' → c ≡ c' → l ≡ l'
    → ◌≡◌ {A = Sums} (record { sum = a; time = b; rest = c; seconds = l }) (record { sum = a'; time = b'; rest = c'; seconds = l' })
sums-path p q r s = λ i. record { sum = p i; time = q i; rest = r i; seconds = s i }

sums_none : (test : Test) (w : ℕ) (u : Sums) → u.rest < 1000 → sums_by test w 0 u ≡ u
unfolding sums_by
sums_none tests.None w u h = refl
sums_none Twenty w u h = sums-path (omega arith) (omega arith) refl refl
sums_none tests.Ramp w u h =
    let z : (u.rest + 0) / 1000 ≡ 0 = omega arith in
    sums-path refl refl (omega arith) (rw z refl)

ramp_more : (b : Bool) (w n : ℕ) (u : Sums) → u.rest < 1000 → eqb (u.rest + 1) 1000 ≡ b → sums_by tests.Ramp w (suc n) u ≡ sums_by tests.Ramp w n (rested b w u)
unfolding sums_by rested
ramp_more true w n u h e =
    let f : u.rest + 1 ≡ 1000 = eqb-true (u.rest + 1) 1000 e in
    let q : (u.rest + suc n) / 1000 ≡ suc ((0 + n) / 1000) = omega arith in
    sums-path refl refl (omega arith) (rw q (sym (replicate_more ((0 + n) / 1000) w u.seconds)))
ramp_more false w n u h e =
    let q : (u.rest + suc n) ≡ (u.rest + 1) + n = omega arith in
    rw q refl

sums-more : (test : Test) (w n : ℕ) (u : Sums) → u.rest < 1000 → sums_by test w (suc n) u ≡ sums_by test w n (summed test w u)
unfolding sums_by summed
sums-more tests.None w n u h = refl
sums-more Twenty w n u h = sums-path (omega arith) (omega arith) refl refl
sums-more tests.Ramp w n u h = ramp_more (eqb (u.rest + 1) 1000) w n u h refl

rested-small : (b : Bool) (w : ℕ) (u : Sums) → u.rest < 1000 → eqb (u.rest + 1) 1000 ≡ b → (rested b w u).rest < 1000
unfolding rested
rested-small true w u h e = omega arith
rested-small false w u h e = far (eqb-false (u.rest + 1) 1000 e)
  where
    far : (u.rest + 1 ≡ 1000 → ⊥) → u.rest + 1 < 1000
    far n = omega arith

summed-small : (test : Test) (w : ℕ) (u : Sums) → u.rest < 1000 → (summed test w u).rest < 1000
unfolding summed
summed-small tests.None w u h = h
summed-small Twenty w u h = h
summed-small tests.Ramp w u h = rested-small (eqb (u.rest + 1) 1000) w u h refl

machine-path : (m : Machine) {t t' : ℕ} {a a' : Tallies} {u u' : Sums} → t ≡ t' → a ≡ a' → u ≡ u'
    → ◌≡◌ {A = Machine}
    (record { step = record { position = m.step.position; time = t; extra = m.step.extra }; readings = m.readings; tallies = a; sums = u; given = m.given })
    (record { step = record { position = m.step.position; time = t'; extra = m.step.extra }; readings = m.readings; tallies = a'; sums = u'; given = m.given })
machine-path m p q r =
    λ i. record { step = record { position = m.step.position; time = p i; extra = m.step.extra }; readings = m.readings; tallies = q i; sums = r i; given = m.given }

-- The time is before the step's end.
abbrev pub Before : Length → ℕ → ℕ → Type 0
Before (Time secs) extra time = time < end_of secs extra
Before (Distance metres) extra time = Unit
Before Open extra time = Unit

-- The step ends at the time.
abbrev pub EndsAt : Length → ℕ → ℕ → Type 0
EndsAt (Time secs) extra time = time ≡ end_of secs extra
EndsAt (Distance metres) extra time = ⊥
EndsAt Open extra time = ⊥

before-is : (l : Length) (extra time : ℕ) → Before l extra time → ends_now l extra time ≡ false
unfolding ends_now
before-is (Time secs) extra time h = ne_eqb time (end_of secs extra) (λ q. omega arith)
before-is (Distance metres) extra time h = refl
before-is Open extra time h = refl

ends_is : (l : Length) (extra time : ℕ) → EndsAt l extra time → ends_now l extra time ≡ true
unfolding ends_now
ends_is (Time secs) extra time h = eq-eqb time (end_of secs extra) h
ends_is (Distance metres) extra time h = absurd h
ends_is Open extra time h = absurd h

earlier : (l : Length) (extra t u : ℕ) → u ≤ t → Before l extra t → Before l extra u
earlier (Time secs) extra t u h b = omega arith
earlier (Distance metres) extra t u h b = tt
earlier Open extra t u h b = tt

before-end : (l : Length) (extra t u : ℕ) → u < t → EndsAt l extra t → Before l extra u
before-end (Time secs) extra t u h b = omega arith
before-end (Distance metres) extra t u h b = tt
before-end Open extra t u h b = tt

module _ (w : Workout) (p : TrainingProfile) where
  pub milliseconds-add : (a b : ℕ) (m : Machine) → milliseconds w p (a + b) m ≡ milliseconds w p b (milliseconds w p a m)
  unfolding milliseconds
  milliseconds-add zero b m = rw zero-add refl
  milliseconds-add (suc a) b m = rw suc-add (milliseconds-add a b (millisecond w p m))

  -- after the finish
  pub milliseconds-done : (n : ℕ) (m : Machine) → step_at w m.step.position ≡ None → milliseconds w p n m ≡ m
  unfolding milliseconds millisecond millisecond_in
  milliseconds-done zero m e = refl
  milliseconds-done (suc n) m e = rw e (milliseconds-done n m e)

  module _ (s : Step) (f : is_ramp s.target ≡ false) where
    by-none : (m : Machine) → m.sums.rest < 1000 → ridden_by w p s 0 m ≡ m
    unfolding ridden_by
    by-none m h = machine-path m (omega arith) (tally-none (judged_in p s m) m.tallies) (sums_none (test_in w s) (last_power m.readings) m.sums h)

    by-more : (n : ℕ) (m : Machine) → m.sums.rest < 1000 → ridden_by w p s (suc n) m ≡ ridden_by w p s n (ridden w p s m)
    unfolding ridden_by ridden
    by-more n m h =
        machine-path m (omega arith)
        (tally-more (judged_in p s m) n m.tallies
        ∙ ap (λ (b : Option Band). tally_by (judged_by s.target b p m.readings) n (tally (judged_in p s m) m.tallies))
        (band-stays s.target p (m.step.time / 1000) ((m.step.time + 1) / 1000) f))
        (sums-more (test_in w s) (last_power m.readings) n m.sums h)

    ridden-small : (m : Machine) → m.sums.rest < 1000 → (ridden w p s m).sums.rest < 1000
    unfolding ridden
    ridden-small m h = summed-small (test_in w s) (last_power m.readings) m.sums h

    one-within : (m : Machine) → step_at w m.step.position ≡ Some s → Before s.length m.step.extra (m.step.time + 1) → millisecond w p m ≡ ridden w p s m
    unfolding millisecond millisecond_in closed ridden
    one-within m e h = rw (e, before-is s.length m.step.extra (m.step.time + 1) h) refl

    one_end : (m : Machine) → step_at w m.step.position ≡ Some s → EndsAt s.length m.step.extra (m.step.time + 1) → millisecond w p m ≡ ended w s false (ridden w p s m)
    unfolding millisecond millisecond_in closed ridden
    one_end m e h = rw (e, ends_is s.length m.step.extra (m.step.time + 1) h) refl

    shift : (m : Machine) (n : ℕ) → m.step.time + 1 + n ≡ m.step.time + suc n
    shift m n = omega arith

    -- within the step
    pub milliseconds-within : (n : ℕ) (m : Machine) → m.sums.rest < 1000 → step_at w m.step.position ≡ Some s → Before s.length m.step.extra (m.step.time + n)
        → milliseconds w p n m ≡ ridden_by w p s n m
    unfolding milliseconds ridden
    milliseconds-within zero m r e h = sym (by-none m r)
    milliseconds-within (suc n) m r e h =
        ap (milliseconds w p n) (one-within m e (earlier s.length m.step.extra (m.step.time + suc n) (m.step.time + 1) (omega arith) h))
        ∙ milliseconds-within n (ridden w p s m) (ridden-small m r) e (rw (shift m n) h)
        ∙ sym (by-more n m r)

    -- to its end
    pub milliseconds-end : (n : ℕ) (m : Machine) → m.sums.rest < 1000 → step_at w m.step.position ≡ Some s → EndsAt s.length m.step.extra (m.step.time + suc n)
        → milliseconds w p (suc n) m ≡ ended w s false (ridden_by w p s (suc n) m)
    unfolding milliseconds ridden
    milliseconds-end zero m r e h = one_end m e h ∙ ap (ended w s false) (sym (by-more zero m r ∙ by-none (ridden w p s m) (ridden-small m r)))
    milliseconds-end (suc n) m r e h =
        ap (milliseconds w p (suc n)) (one-within m e (before-end s.length m.step.extra (m.step.time + suc (suc n)) (m.step.time + 1) (omega arith) h))
        ∙ milliseconds-end n (ridden w p s m) (ridden-small m r) e (rw (shift m (suc n)) h)
        ∙ ap (ended w s false) (sym (by-more (suc n) m r))
