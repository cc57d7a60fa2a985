-- Two runs of the machine side by side: their steps and times are the same, and the newest power of the second is higher by some watts
-- while neither reads. Here calls are those that aren't refused (Accepted.antt).
use Rattle.std.specs.Prelude.{Option, None, Some}
use mathlib.Core.Path.{◌≡◌, refl, sym, ap, ap₂, ◌∙◌, subst}
use mathlib.Core.Bool.{Bool, true, false, cond}
use mathlib.Core.List.{List, [], ◌∷◌, ◌++◌}
use Prim.Native.Nat.{ℕ, zero, suc, ◌+◌, ◌*◌}
use native.Mathlib.Nat.{mul-zero, zero-mul, add-mul, mul-add}
use native.Mathlib.Omega.{arith}
use Rattle.zones.specs.declared.TrainingProfile.{TrainingProfile}
use Rattle.model.specs.declared.Step.{Step}
use Rattle.model.specs.declared.Workout.{Workout}
use Rattle.machine.specs.Machine.{StepTime, Machine, step_at, reading, extra_after, with_extra, ended, skipped, last_power, ridden, ends_now, closed, millisecond_in, millisecond, milliseconds}
use Rattle.machine.specs.Cutting.{Call, read, ride, skip, extend}
use Rattle.one_reading.specs.OneReading.{testing, in_test, call_time, until_read}

abbrev pub power_of : Machine → ℕ
power_of m = last_power m.readings

abbrev pub test_at : Workout → Machine → ℕ
test_at w m = testing (step_at w m.step.position)

abbrev pub longer_by : Workout → ℕ → Machine → Option ℕ
longer_by w secs m = extra_after (step_at w m.step.position) secs m.step.extra

module _ (w : Workout) (p : TrainingProfile) where
  -- The machine after a call that isn't refused, and after a list of them.
  abbrev pub on_call : Call → Machine → Machine
  on_call (read sample) m = reading sample m
  on_call (ride ms mm kinds values) m = milliseconds w p ms m
  on_call (skip kinds values) m = skipped w (step_at w m.step.position) m
  on_call (extend secs metres) m = with_extra (longer_by w secs m) m

  unfoldable pub on_calls : List Call → Machine → Machine
  on_calls [] m = m
  on_calls (c ∷ l) m = on_calls l (on_call c m)

  pub on-append : (xs ys : List Call) (m : Machine) → on_calls (xs ++ ys) m ≡ on_calls ys (on_calls xs m)
  unfolding on_calls
  on-append [] ys m = refl
  on-append (c ∷ xs) ys m = on-append xs ys (on_call c m)

  -- Power summed over the test step's milliseconds.
  unfoldable pub power_in : ℕ → Machine → ℕ
  power_in zero m = 0
  power_in (suc n) m = power_of m * test_at w m + power_in n (millisecond w p m)

  abbrev pub call_power : Call → Machine → ℕ
  call_power (read sample) m = 0
  call_power (ride ms mm kinds values) m = power_in ms m
  call_power (skip kinds values) m = 0
  call_power (extend secs metres) m = 0

  -- What the calls of a list have together, of time or of power.
  unfoldable pub over : (Call → Machine → ℕ) → List Call → Machine → ℕ
  over f [] m = 0
  over f (c ∷ l) m = f c m + over f l (on_call c m)

  pub over-append : (f : Call → Machine → ℕ) (xs ys : List Call) (m : Machine) → over f (xs ++ ys) m ≡ over f xs m + over f ys (on_calls xs m)
  unfolding over on_calls
  over-append f [] ys m = omega arith
  over-append f (c ∷ xs) ys m = omega (arith, over-append f xs ys (on_call c m))

  abbrev pub time_on : List Call → Machine → ℕ
  time_on l m = over (call_time w p) l m

  abbrev pub power_on : List Call → Machine → ℕ
  power_on l m = over call_power l m

-- n stands beside m: in the same place, its newest power d higher.
pub record Beside (d : ℕ) (m n : Machine) : Type 0 where
  pub step : n.step ≡ m.step
  pub power : power_of n ≡ power_of m + d

module _ (w : Workout) (p : TrainingProfile) where
  ended-beside : (s : Step) (marked : Bool) {d : ℕ} {m n : Machine} → Beside d m n → Beside d (ended w s marked m) (ended w s marked n)
  unfolding ended
  ended-beside s marked B =
      record { step = ap (λ (t : StepTime). record { position = t.position + 1; time = 0; extra = 0 }) B.step; power = B.power }

  ridden-beside : (s : Step) {d : ℕ} {m n : Machine} → Beside d m n → Beside d (ridden w p s m) (ridden w p s n)
  unfolding ridden
  ridden-beside s B =
      record { step = ap (λ (t : StepTime). record { position = t.position; time = t.time + 1; extra = t.extra }) B.step; power = B.power }

  closed-by : (s : Step) (ends : Bool) {d : ℕ} {m n : Machine} → Beside d m n → Beside d (cond ends (ended w s false m) m) (cond ends (ended w s false n) n)
  closed-by s true B = ended-beside s false B
  closed-by s false B = B

  closed-beside : (s : Step) {d : ℕ} {m n : Machine} → Beside d m n → Beside d (closed w s m) (closed w s n)
  unfolding closed
  closed-beside s {d} {m} {n} B =
      let ends : StepTime → Bool = λ t. ends_now s.length t.extra t.time in
      subst (λ (t : StepTime). Beside d (closed w s m) (cond (ends t) (ended w s false n) n)) (sym B.step) (closed-by s (ends m.step) B)

  millisecond-by : (o : Option Step) {d : ℕ} {m n : Machine} → Beside d m n → Beside d (millisecond_in w p o m) (millisecond_in w p o n)
  unfolding millisecond_in
  millisecond-by None B = B
  millisecond-by (Some s) B = closed-beside s (ridden-beside s B)

  skipped-by : (o : Option Step) {d : ℕ} {m n : Machine} → Beside d m n → Beside d (skipped w o m) (skipped w o n)
  unfolding skipped
  skipped-by None B = B
  skipped-by (Some s) B = ended-beside s true B

  extended-by : (o : Option ℕ) {d : ℕ} {m n : Machine} → Beside d m n → Beside d (with_extra o m) (with_extra o n)
  unfolding with_extra
  extended-by None B = B
  extended-by (Some extra) B =
      record { step = ap (λ (t : StepTime). record { position = t.position; time = t.time; extra = extra }) B.step; power = B.power }

  millisecond-beside : {d : ℕ} {m n : Machine} → Beside d m n → Beside d (millisecond w p m) (millisecond w p n)
  unfolding millisecond
  millisecond-beside {d} {m} {n} B =
      subst (λ (t : StepTime). Beside d (millisecond w p m) (millisecond_in w p (step_at w t.position) n)) (sym B.step)
      (millisecond-by (step_at w m.step.position) B)

  milliseconds-beside : (k : ℕ) {d : ℕ} {m n : Machine} → Beside d m n → Beside d (milliseconds w p k m) (milliseconds w p k n)
  unfolding milliseconds
  milliseconds-beside zero B = B
  milliseconds-beside (suc k) B = milliseconds-beside k (millisecond-beside B)

  -- A read ends the difference.
  abbrev left : Call → ℕ → ℕ
  left (read sample) d = 0
  left (ride ms mm kinds values) d = d
  left (skip kinds values) d = d
  left (extend secs metres) d = d

  call-beside : (c : Call) {d : ℕ} {m n : Machine} → Beside d m n → Beside (left c d) (on_call w p c m) (on_call w p c n)
  call-beside (read sample) B = unfold reading in record { step = B.step; power = omega arith }
  call-beside (ride ms mm kinds values) B = milliseconds-beside ms B
  call-beside (skip kinds values) {d} {m} {n} B =
      subst (λ (t : StepTime). Beside d (skipped w (step_at w m.step.position) m) (skipped w (step_at w t.position) n)) (sym B.step)
      (skipped-by (step_at w m.step.position) B)
  call-beside (extend secs metres) {d} {m} {n} B =
      subst (λ (t : StepTime). Beside d (with_extra (longer_by w secs m) m) (with_extra (extra_after (step_at w t.position) secs t.extra) n)) (sym B.step)
      (extended-by (longer_by w secs m) B)

  -- The time in the test step is the same, and the power summed over it higher by d for each of its milliseconds.

  in-test-beside : (k : ℕ) {d : ℕ} {m n : Machine} → Beside d m n
      → (in_test w p k n ≡ in_test w p k m) × (power_in w p k n ≡ power_in w p k m + d * in_test w p k m)
  unfolding in_test power_in
  in-test-beside zero {d} B = (refl, omega (arith, mul-zero d))
  in-test-beside (suc k) {d} {m} {n} B =
      let same : test_at w n ≡ test_at w m = ap (λ (t : StepTime). testing (step_at w t.position)) B.step in
      let later = in-test-beside k (millisecond-beside B) in
      let now : power_of n * test_at w n ≡ power_of m * test_at w m + d * test_at w m =
      ap₂ (λ (x y : ℕ). x * y) B.power same ∙ add-mul (power_of m) d (test_at w m) in
      (omega (arith, same, later.0), omega (arith, now, later.1, mul-add d (test_at w m) (in_test w p k (millisecond w p m))))

  sums-beside : (c : Call) {d : ℕ} {m n : Machine} → Beside d m n
      → (call_time w p c n ≡ call_time w p c m) × (call_power w p c n ≡ call_power w p c m + d * call_time w p c m)
  sums-beside (read sample) {d} B = (refl, omega (arith, mul-zero d))
  sums-beside (ride ms mm kinds values) B = in-test-beside ms B
  sums-beside (skip kinds values) {d} B = (refl, omega (arith, mul-zero d))
  sums-beside (extend secs metres) {d} B = (refl, omega (arith, mul-zero d))

  pub time-beside : (l : List Call) {d : ℕ} {m n : Machine} → Beside d m n → time_on w p l n ≡ time_on w p l m
  unfolding over
  time-beside [] B = refl
  time-beside (c ∷ l) B = omega (arith, (sums-beside c B).0, time-beside l (call-beside c B))

  -- with a call that isn't a read the difference goes on
  further : (c : Call) (l : List Call) {d : ℕ} {m n : Machine} → Beside d m n
      → power_on w p l (on_call w p c n) ≡ power_on w p l (on_call w p c m) + d * time_on w p (until_read l) (on_call w p c m)
      → power_on w p (c ∷ l) n ≡ power_on w p (c ∷ l) m + d * time_on w p (c ∷ until_read l) m
  unfolding over
  further c l {d} {m} B later = omega (arith, (sums-beside c B).1, later, mul-add d (call_time w p c m) (time_on w p (until_read l) (on_call w p c m)))

  pub power-beside : (l : List Call) {d : ℕ} {m n : Machine} → Beside d m n → power_on w p l n ≡ power_on w p l m + d * time_on w p (until_read l) m
  unfolding until_read over
  power-beside [] {d} B = omega (arith, mul-zero d)
  power-beside (read sample ∷ l) {d} {m} B =
      omega (arith, power-beside l (call-beside (read sample) B), mul-zero d, zero-mul (time_on w p (until_read l) (reading sample m)))
  power-beside (ride ms mm kinds values ∷ l) B = further (ride ms mm kinds values) l B (power-beside l (call-beside (ride ms mm kinds values) B))
  power-beside (skip kinds values ∷ l) B = further (skip kinds values) l B (power-beside l (call-beside (skip kinds values) B))
  power-beside (extend secs metres ∷ l) B = further (extend secs metres) l B (power-beside l (call-beside (extend secs metres) B))
