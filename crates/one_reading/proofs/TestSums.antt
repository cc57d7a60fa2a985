-- One run: where a workout's test is `Twenty` and it plays one test step, the machine's FTP is the result of the power summed and the time
-- ridden in that step over the whole list of calls.
use Rattle.std.specs.Prelude.{None, Some, Option}
use mathlib.Core.Path.{◌≡◌, refl, sym, ap, subst}
use mathlib.Core.Bool.{Bool, true, false, cond}
use mathlib.Core.Logic.{◌⊎◌, inl, inr, ⊎_elim}
use mathlib.Core.List.{List, [], ◌∷◌, map}
use Prim.Native.Nat.{ℕ, zero, suc, ◌+◌, ◌*◌, ◌≤◌, ◌<◌}
use native.Mathlib.Nat.{zero-add, add-zero, mul-zero, mul-one}
use native.Mathlib.Omega.{arith}
use lib.Dec.{ltb}
use borrow.Author.Tests.{ltb-true, ltb-false}
use Rattle.common.specs.Lists.{sum, range}
use Rattle.zones.specs.declared.TrainingProfile.{TrainingProfile}
use Rattle.model.specs.declared.Length.{Length}
use Rattle.model.specs.declared.Length.TheVariants.{Time, Distance, Open}
use Rattle.model.specs.declared.Test.TheVariants.{Twenty}
use Rattle.model.specs.declared.Step.{Step}
use Rattle.model.specs.declared.Workout.{Workout}
use Rattle.order.specs.Order.{played_len}
use Rattle.readings.specs.declared.Sample.{Sample}
use Rattle.machine.specs.Machine.{Sums, Machine, start, step_at, step_after, reading, with_extra, is_test, end_of, twenty, result, result_in, ftp_after, sums_at, ended, skipped, summed, ridden, ends_now, closed, millisecond_in, millisecond, milliseconds}
use Rattle.machine.specs.Cutting.{Call, read, ride, skip, extend}
use Rattle.machine.proofs.Scope.{Held, past}
use Rattle.one_reading.specs.OneReading.{testing, played_tests, in_test, call_time}
use Rattle.one_reading.proofs.Means.{none-not, twenty_of}
use Rattle.one_reading.proofs.Beside.{power_of, longer_by, on_call, on_calls, power_in, call_power, over, time_on, power_on}

-- Numbers of a list are at most its sum, one of them and two of them.

one_in : (f : ℕ → ℕ) (i n a : ℕ) → a < n → f (i + a) ≤ sum (map f (range i n))
unfolding sum range
one_in f i zero a h = absurd (omega arith)
one_in f i (suc n) zero h = omega (arith, ap f (add-zero i))
one_in f i (suc n) (suc a) h =
    let e : suc i + a ≡ i + suc a = omega arith in
    omega (arith, one_in f (suc i) n a (omega arith), ap f e)

two_in : (f : ℕ → ℕ) (i n a b : ℕ) → a < b → b < n → f (i + a) + f (i + b) ≤ sum (map f (range i n))
unfolding sum range
two_in f i zero a b h k = absurd (omega arith)
two_in f i (suc n) a zero h k = absurd (omega arith)
two_in f i (suc n) zero (suc b) h k =
    let e : suc i + b ≡ i + suc b = omega arith in
    omega (arith, ap f (add-zero i), one_in f (suc i) n b (omega arith), ap f e)
two_in f i (suc n) (suc a) (suc b) h k =
    let e : suc i + b ≡ i + suc b = omega arith in
    let d : suc i + a ≡ i + suc a = omega arith in
    omega (arith, two_in f (suc i) n a b (omega arith) (omega arith), ap f e, ap f d)

-- What an FTP comes from: a step's result, or the one before.

ftp-from : (r before : Option ℕ) (f : ℕ) → ftp_after r before ≡ Some f → (r ≡ Some f) ⊎ (before ≡ Some f)
ftp-from None before f e = inr e
ftp-from (Some watts) before f e = inl e

twenty-by : (short : Bool) (r : Option ℕ) (f : ℕ) → cond short None r ≡ Some f → r ≡ Some f
twenty-by true r f e = none-not e
twenty-by false r f e = e

twenty-is : (l : Length) (extra : ℕ) (u : Sums) (f : ℕ) → twenty l extra u ≡ Some f → twenty_of u.sum u.time ≡ Some f
unfolding twenty
twenty-is (Time secs) extra u f e = twenty-by (ltb u.time (end_of secs extra)) (twenty_of u.sum u.time) f e
twenty-is (Distance metres) extra u f e = none-not e
twenty-is Open extra u f e = none-not e

-- The sums where a step has started.
sums_at_lem : (o : Option Step) (u : Sums) (S T : ℕ) → (u.sum ≡ S) × (u.time ≡ T) → (S ≡ 0) × (T ≡ 0)
    → ((sums_at o u).sum ≡ S) × ((sums_at o u).time ≡ T)
sums_at_lem None u S T a b = a
sums_at_lem (Some s) u S T a b = (sym b.0, sym b.1)

module _ (w : Workout) (p : TrainingProfile) (H : Held w) (tw : w.test ≡ Twenty) (once : played_tests w ≡ 1) where
  abbrev is_test_at : ℕ → Type 0
  is_test_at i = testing (step_at w i) ≡ 1

  below-len : (i : ℕ) → is_test_at i → i < played_len w
  unfolding testing
  below-len i e = at (ltb i (played_len w)) refl
    where
      at : (b : Bool) → ltb i (played_len w) ≡ b → i < played_len w
      at true h = ltb-true i (played_len w) h
      at false h = absurd (let z : testing (step_at w i) ≡ 0 = ap testing (past w H i (ltb-false i (played_len w) h)) in omega arith)

  -- no test step comes after a test step
  only : (a i : ℕ) → is_test_at a → a < i → is_test_at i → ⊥
  unfolding played_tests
  only a i e q f =
      let at : ℕ → ℕ = λ j. testing (step_at w j) in
      let two = two_in at 0 (played_len w) a i q (below-len i f) in
      omega (arith, two, once, e, f, ap at (let z : 0 + a ≡ a = omega arith in z), ap at (let z : 0 + i ≡ i = omega arith in z))

  -- S and T are the power summed and the time ridden in the test step so far.
  pub record TestSums (S T : ℕ) (m : Machine) : Type 0 where
    -- in the test step and before it the machine's sums are these, before it both are 0
    pub sums : (i : ℕ) → m.step.position ≤ i → is_test_at i → (m.sums.sum ≡ S) × (m.sums.time ≡ T)
    pub none_yet : (i : ℕ) → m.step.position < i → is_test_at i → (S ≡ 0) × (T ≡ 0)
    -- an FTP is their result, and the test step is over
    pub ftp-is : (f : ℕ) → m.given.ftp ≡ Some f → twenty_of S T ≡ Some f
    pub ftp-late : (f : ℕ) → m.given.ftp ≡ Some f → (i : ℕ) → m.step.position ≤ i → is_test_at i → ⊥

  sums-to : {S T S' T' : ℕ} {m : Machine} → S ≡ S' → T ≡ T' → TestSums S T m → TestSums S' T' m
  sums-to {S} {T} {S'} {T'} {m} e f R = subst (λ (x : ℕ). TestSums x T' m) e (subst (λ (x : ℕ). TestSums S x m) f R)

  -- nothing more in the test step
  sums_same : {S T : ℕ} {m : Machine} → TestSums S T m → TestSums (S + 0) (T + 0) m
  sums_same {S} {T} R = sums-to (sym (add-zero S)) (sym (add-zero T)) R

  -- A step that is no test step.

  plain-ridden : (s : Step) {S T : ℕ} {m : Machine} → is_test s.intensity ≡ false → TestSums S T m → TestSums S T (ridden w p s m)
  unfolding ridden summed
  plain-ridden s e R = record { sums = λ i h t. rw e (R.sums i h t); none_yet = R.none_yet; ftp-is = R.ftp-is; ftp-late = R.ftp-late }

  plain-ended : (s : Step) (marked : Bool) {S T : ℕ} {m : Machine} → is_test s.intensity ≡ false → TestSums S T m → TestSums S T (ended w s marked m)
  unfolding ended result
  plain-ended s marked {S} {T} {m} e R =
      record {
        sums = λ i h t. sums_at_lem (step_after w m.step.position) m.sums S T (R.sums i (omega arith) t) (R.none_yet i (omega arith) t);
        none_yet = λ i h t. R.none_yet i (omega arith) t;
        ftp-is = λ f q. R.ftp-is f (rw e at q);
        ftp-late = λ f q i h. R.ftp-late f (rw e at q) i (omega arith);
      }

  -- The test step.

  test_at_lem : (s : Step) (m : Machine) → step_at w m.step.position ≡ Some s → is_test s.intensity ≡ true → is_test_at m.step.position
  unfolding testing
  test_at_lem s m at e = rw (at, e) refl

  test-ridden : (s : Step) {S T : ℕ} {m : Machine} → step_at w m.step.position ≡ Some s → is_test s.intensity ≡ true → TestSums S T m
      → TestSums (S + power_of m) (T + 1) (ridden w p s m)
  unfolding ridden summed
  test-ridden s {S} {T} {m} at e R =
      let t : is_test_at m.step.position = test_at_lem s m at e in
      let so_far = R.sums m.step.position (omega arith) t in
      record {
        sums = λ i h q. rw (e, tw) (omega (arith, so_far.0), omega (arith, so_far.1));
        none_yet = λ i h q. absurd (only m.step.position i t h q);
        ftp-is = λ f q. absurd (R.ftp-late f q m.step.position (omega arith) t);
        ftp-late = λ f q i h r. R.ftp-late f q m.step.position (omega arith) t;
      }

  test-result : (s : Step) (marked : Bool) (m : Machine) (f : ℕ) → is_test s.intensity ≡ true → (m.given.ftp ≡ Some f → ⊥)
      → ftp_after (result_in w s marked m) m.given.ftp ≡ Some f → twenty_of m.sums.sum m.sums.time ≡ Some f
  unfolding result
  test-result s true m f e n q =
      ⊎_elim (λ x. none-not (rw (e, tw) at x)) (λ x. absurd (n x)) (ftp-from (result_in w s true m) m.given.ftp f q)
  test-result s false m f e n q =
      ⊎_elim (λ (x : result_in w s false m ≡ Some f). twenty-is s.length m.step.extra m.sums f (rw (e, tw) at x)) (λ x. absurd (n x))
      (ftp-from (result_in w s false m) m.given.ftp f q)

  test-ended : (s : Step) (marked : Bool) {S T : ℕ} {m : Machine} → step_at w m.step.position ≡ Some s → is_test s.intensity ≡ true → TestSums S T m
      → TestSums S T (ended w s marked m)
  unfolding ended
  test-ended s marked {S} {T} {m} at e R =
      let t : is_test_at m.step.position = test_at_lem s m at e in
      let so_far = R.sums m.step.position (omega arith) t in
      let none_before : (f : ℕ) → m.given.ftp ≡ Some f → ⊥ = λ f q. R.ftp-late f q m.step.position (omega arith) t in
      record {
        sums = λ i h q. absurd (only m.step.position i t (omega arith) q);
        none_yet = λ i h q. absurd (only m.step.position i t (omega arith) q);
        ftp-is =
            λ f q.
            subst (λ (x : ℕ). twenty_of x T ≡ Some f) so_far.0
            (subst (λ (x : ℕ). twenty_of m.sums.sum x ≡ Some f) so_far.1 (test-result s marked m f e (none_before f) q));
        ftp-late = λ f q i h r. only m.step.position i t (omega arith) r;
      }

  -- Any step.

  ended-sums : (s : Step) (test marked : Bool) {S T : ℕ} {m : Machine} → step_at w m.step.position ≡ Some s → is_test s.intensity ≡ test → TestSums S T m
      → TestSums S T (ended w s marked m)
  ended-sums s true marked at e R = test-ended s marked at e R
  ended-sums s false marked at e R = plain-ended s marked e R

  ridden-sums : (s : Step) (test : Bool) {S T : ℕ} {m : Machine} → step_at w m.step.position ≡ Some s → is_test s.intensity ≡ test → TestSums S T m
      → TestSums (S + power_of m * cond test 1 0) (T + cond test 1 0) (ridden w p s m)
  ridden-sums s true {S} {T} {m} at e R = sums-to (omega (arith, mul-one (power_of m))) refl (test-ridden s at e R)
  ridden-sums s false {S} {T} {m} at e R = sums-to (omega (arith, mul-zero (power_of m))) (sym (add-zero T)) (plain-ridden s e R)

  closed-by : (s : Step) (ends : Bool) {S T : ℕ} {m : Machine} → TestSums S T m → TestSums S T (ended w s false m)
      → TestSums S T (cond ends (ended w s false m) m)
  closed-by s true R E = E
  closed-by s false R E = R

  millisecond-by : (o : Option Step) {S T : ℕ} {m : Machine} → step_at w m.step.position ≡ o → TestSums S T m
      → TestSums (S + power_of m * testing o) (T + testing o) (millisecond_in w p o m)
  unfolding millisecond_in testing closed ridden
  millisecond-by None {S} {T} {m} at R = sums-to (omega (arith, mul-zero (power_of m))) (sym (add-zero T)) R
  millisecond-by (Some s) {S} {T} {m} at R =
      let R' = ridden-sums s (is_test s.intensity) at refl R in
      closed-by s (ends_now s.length m.step.extra (m.step.time + 1)) R' (ended-sums s (is_test s.intensity) false at refl R')

  milliseconds-sums : (k : ℕ) {S T : ℕ} {m : Machine} → TestSums S T m
      → TestSums (S + power_in w p k m) (T + in_test w p k m) (milliseconds w p k m)
  unfolding milliseconds in_test power_in millisecond
  milliseconds-sums zero R = sums_same R
  milliseconds-sums (suc k) {S} {T} {m} R =
      sums-to (omega arith) (omega arith) (milliseconds-sums k (millisecond-by (step_at w m.step.position) refl R))

  skipped-sums : (o : Option Step) {S T : ℕ} {m : Machine} → step_at w m.step.position ≡ o → TestSums S T m → TestSums S T (skipped w o m)
  unfolding skipped
  skipped-sums None at R = R
  skipped-sums (Some s) at R = ended-sums s (is_test s.intensity) true at refl R

  extended-sums : (o : Option ℕ) {S T : ℕ} {m : Machine} → TestSums S T m → TestSums S T (with_extra o m)
  unfolding with_extra
  extended-sums None R = R
  extended-sums (Some extra) R = record { sums = R.sums; none_yet = R.none_yet; ftp-is = R.ftp-is; ftp-late = R.ftp-late }

  read-sums : (sample : Sample) {S T : ℕ} {m : Machine} → TestSums S T m → TestSums S T (reading sample m)
  unfolding reading
  read-sums sample R = record { sums = R.sums; none_yet = R.none_yet; ftp-is = R.ftp-is; ftp-late = R.ftp-late }

  call-sums : (c : Call) {S T : ℕ} {m : Machine} → TestSums S T m → TestSums (S + call_power w p c m) (T + call_time w p c m) (on_call w p c m)
  call-sums (read sample) R = sums_same (read-sums sample R)
  call-sums (ride ms mm kinds values) R = milliseconds-sums ms R
  call-sums (skip kinds values) {m = m} R = sums_same (skipped-sums (step_at w m.step.position) refl R)
  call-sums (extend secs metres) {m = m} R = sums_same (extended-sums (longer_by w secs m) R)

  list-sums : (l : List Call) {S T : ℕ} {m : Machine} → TestSums S T m → TestSums (S + power_on w p l m) (T + time_on w p l m) (on_calls w p l m)
  unfolding on_calls over
  list-sums [] R = sums_same R
  list-sums (c ∷ l) R = sums-to (omega arith) (omega arith) (list-sums l (call-sums c R))

  start-sums : TestSums 0 0 start
  unfolding start
  start-sums = record { sums = λ i h t. (refl, refl); none_yet = λ i h t. (refl, refl); ftp-is = λ f q. none-not q; ftp-late = λ f q. none-not q }

  -- the machine's FTP after a list
  pub ftp-of-sums : (l : List Call) (f : ℕ) → (on_calls w p l start).given.ftp ≡ Some f → twenty_of (power_on w p l start) (time_on w p l start) ≡ Some f
  ftp-of-sums l f e = (sums-to (zero-add (power_on w p l start)) (zero-add (time_on w p l start)) (list-sums l start-sums)).ftp-is f e
