-- The loop of riding keeps standing.
use mathlib.Core.Path.{◌≡◌, refl, sym, ap, ◌∙◌, subst}
use mathlib.Core.Bool.{Bool, true, false, cond}
use mathlib.Core.List.{List}
use Prim.Native.Nat.{ℕ, zero, suc, ◌-◌, ◌≤◌, ◌<◌}
use native.Mathlib.Omega.{arith}
use Rattle.zones.specs.declared.TrainingProfile.{TrainingProfile}
use Rattle.model.specs.declared.Test.{Test}
use Rattle.model.specs.declared.Test.TheVariants as tests
use Rattle.model.specs.declared.Workout.{Workout}
use Rattle.order.specs.Order.{played_len}
use Rattle.validation.proofs.Passes.{passes}
use Rattle.readings.specs.declared.Readings.{Readings}
use Rattle.power.specs.Power.{or_zero}
use Rattle.state.specs.declared.Core.{Core}
use Rattle.state.specs.declared.Part.{Part}
use Rattle.state.specs.State.{SmallEnergy, until_end}
use Rattle.measure.specs.Measure.{Meter, test_in, measured_by, measured_of}
use Rattle.measure.proofs.Laws.{energy-more, ramp-energy}
use Rattle.step_end.specs.StepEnd.{is_over, next_of, arrived}
use Rattle.standing.specs.Facts.{Within, Stands}
use Rattle.standing.proofs.Amounts.{Amounts, amounts-within}
use Rattle.rounds.specs.declared.Ride.{Ride}
use Rattle.rounds.specs.Rounds.{Riding, riding, Rode, riding_of, advanced, closed_by, closed, round_of, stays, joined, is_stopped, rounds}
use Rattle.rounds.specs.Contracted.{Rides}
use Rattle.rounds.proofs.One.{round_is}
use Rattle.rounds.proofs.Loop.{after-stands}

-- what is still to be ridden may be dropped
pub dropped : (x y : ℕ) (w : Workout) (c : Core) → Stands x y w c → Stands 0 0 w c
dropped x y w c s =
    let h : Within x y w c = s.within in
    record { within = amounts-within 0 0 c.total_ms.0 c.total_mm.0 c.lap w c h (fewer x y w c h); lap = s.lap }
  where
    fewer : (x y : ℕ) (w : Workout) (c : Core) → Within x y w c → Amounts 0 0 c.total_ms.0 c.total_mm.0 c.lap c
    fewer x y w c h =
        record {
          targeted = omega (arith, h.targeted);
          step-ms = omega (arith, h.step-ms);
          step-mm = omega (arith, h.step-mm);
          test-ms = omega (arith, h.test-ms);
          low = omega (arith, h.low);
          total-ms = h.total-ms;
          total-mm = h.total-mm;
        }

measured-energy : (test : Test) (w ms low : ℕ) (m : Meter) → w < 65536 → SmallEnergy m.measured → SmallEnergy (measured_by test w ms low m).measured
measured-energy tests.None w ms low m h e = e
measured-energy tests.Twenty w ms low m h e = energy-more m.measured.test_mj w m.measured.test_ms ms e (omega arith)
measured-energy tests.Ramp w ms low m h e = ramp-energy w ms low m e

-- a step's end leaves the readings
pub closed-readings : (w : Workout) (p : TrainingProfile) (c : Core) → (closed w p c).core.readings ≡ c.readings
unfolding closed next_of arrived
closed-readings w p c = at (is_over p c)
  where
    at : (b : Bool) → (closed_by b w c).core.readings ≡ c.readings
    at true = refl
    at false = refl

-- a ride of a core from its start
abbrev pub start_of : ℕ → ℕ → Core → Ride
start_of ms mm c = record { core = c; ms = record { 0 = ms }; mm = record { 0 = mm }; count = 0; parts = 0 }

abbrev pub PowerIn : Core → Type 0
PowerIn c = or_zero c.readings.last_sample.power_watts < 65536

module _ (w : Workout) (p : TrainingProfile) where
  module _ (ms mm : ℕ) (c : Core) (m : List ℕ) (s : Stands ms mm w c) (ms_in : ms ≤ 86400000) (mm_in : mm ≤ 1000000000) (power : PowerIn c) (on : is_stopped c.done ms ≡ false) where
    abbrev after : Rode
    after = round_of w p (until_end c ms mm) (riding c m)

    pub rides : Rides w (start_of ms mm c) 193 193
    rides =
        let few : played_len w ≤ 96 = (passes w s.within.valid).most in
        record { stands = s; ms = ms_in; mm = mm_in; parts = omega arith; kinds = λ _. omega arith; values = λ _. omega arith }

    abbrev ridden : Riding
    ridden = advanced w.test p (until_end c ms mm).ms.0 (until_end c ms mm).mm.0 (riding c m)

    core_is : after.core ≡ (closed w p ridden.core).core
    core_is = ap (λ (k : Rode). k.core) (round_is w (start_of ms mm c) 193 193 rides on p m)

    round-energy : SmallEnergy ridden.core.measured
    unfolding advanced measured_of
    round-energy =
        measured-energy (test_in c.on.intensity w.test) (or_zero c.readings.last_sample.power_watts) _ _ _ power s.within.energy

    pub round-power : PowerIn after.core
    unfolding advanced
    round-power = subst (λ (r : Readings). or_zero r.last_sample.power_watts < 65536) (sym (ap (λ (k : Core). k.readings) core_is ∙ closed-readings w p ridden.core)) power

    pub round-stands : Stands (ms - (until_end c ms mm).ms.0) (mm - (until_end c ms mm).mm.0) w after.core
    round-stands = after-stands w (start_of ms mm c) 193 193 rides on p m round-energy

  pub rounds-stand : (n ms mm : ℕ) (c : Core) (m : List ℕ) → Stands ms mm w c → ms ≤ 86400000 → mm ≤ 1000000000 → PowerIn c → Stands 0 0 w (rounds w p n ms mm (riding c m)).core
  unfolding rounds
  rounds-stand zero ms mm c m s a b power = dropped ms mm w c s
  rounds-stand (suc n) ms mm c m s a b power =
      let part : Part = until_end c ms mm in
      let one : Rode = round_of w p part (riding c m) in
      at
      (λ e.
      rounds-stand n (ms - part.ms.0) (mm - part.mm.0) one.core one.watts (round-stands ms mm c m s a b power e) (omega arith) (omega arith)
      (round-power ms mm c m s a b power e))
      (is_stopped c.done ms) refl
    where
      rest : Rode
      rest = rounds w p n (ms - (until_end c ms mm).ms.0) (mm - (until_end c ms mm).mm.0) (riding_of (round_of w p (until_end c ms mm) (riding c m)))

      at : (is_stopped c.done ms ≡ false → Stands 0 0 w rest.core) → (t : Bool) → is_stopped c.done ms ≡ t
          → Stands 0 0 w (cond t (stays (riding c m)) (joined (round_of w p (until_end c ms mm) (riding c m)) rest)).core
      at next true e = dropped ms mm w c s
      at next false e = next e
