-- Document 02, n, 'What one reading can do': how far one reading moves the FTP of a test. In plain words:
--
-- Take a workout that the third demand takes (`Taken`: it passes questions 5 to 9 and has no distance steps and no ramp targets), whose
-- test is `Twenty` and that plays one test step; a profile that passes question 10; and two lists of calls that are the same but for
-- one read, its power higher in the second (`TwoLists`). Play each list on a fresh player, nothing being refused (`Comparable`). If both
-- players then have an FTP, so that f is the first's and g the second's (`Bounded`):
--   time was ridden in the test step, the same in both lists, and that reading was the latest for as much of it in both;
--   g isn't lower than f;
--   g is at most f plus the rise in watts times the share of the test step's time for which that reading was the latest, rounded up.
--
-- The statement itself, `OneReading`, stands below those definitions; `one_reading::one_reading` proves it.
use Rattle.std.specs.Prelude.{◌≡◌, Bool, true, false, cond, List, [], ◌∷◌, ◌++◌, map, ℕ, zero, suc, ◌+◌, ◌-◌, ◌*◌, ◌/◌, ◌≤◌, ◌<◌, Some, Option, None}
use Rattle.common.specs.Lists.{sum, range}
use Rattle.zones.specs.declared.TrainingProfile.{TrainingProfile}
use Rattle.zones.specs.Zones.{profile_ok}
use Rattle.model.specs.declared.Test.TheVariants.{Twenty}
use Rattle.model.specs.declared.Step.{Step}
use Rattle.model.specs.declared.Workout.{Workout}
use Rattle.order.specs.Order.{played_len}
use Rattle.start.specs.Start.{new_of}
use Rattle.machine.specs.Machine.{Machine, step_at, is_test, millisecond}
use Rattle.machine.specs.Cutting.{Call, read, ride, skip, extend, own, alone}
use Rattle.machine.specs.Runs.{Run, run, Progress, begun, after_call, after_calls}
use Rattle.machine.specs.ThirdDemand.{Taken, InMemory, AllAccepted}

-- The two lists.

-- "two lists .. that differ only in one read, its present power d watts higher in the second": the calls before that read, its power in
-- the first list, d, what else it reads, and the calls after it.
pub record TwoLists : Type 0 where
  pub before : List Call
  pub watts : ℕ
  pub rise : ℕ
  pub heart : Option ℕ
  pub cadence : Option ℕ
  pub after : List Call

-- That read, with such a power.
abbrev pub that_read : TwoLists → ℕ → Call
that_read q watts = read (record { power_watts = Some watts; heart_bpm = q.heart; cadence_tenths = q.cadence })

abbrev pub list_of : TwoLists → ℕ → List Call
list_of q watts = q.before ++ (that_read q watts ∷ q.after)

unfoldable pub first : TwoLists → List Call
first q = list_of q q.watts

unfoldable pub second : TwoLists → List Call
second q = list_of q (q.watts + q.rise)

-- "Play two lists .. from a fresh player"
abbrev pub fresh_run : Workout → TrainingProfile → List Call → Run
fresh_run w p l = run p l (new_of w).player

-- "an FTP": the player's own, from its test
abbrev pub ftp_of : Workout → TrainingProfile → List Call → Option ℕ
ftp_of w p l = (fresh_run w p l).player.core.summary.ftp

-- Time in the test step.

-- A millisecond counts for 1 in a test step, and for 0 in another one and after the finish.
unfoldable pub testing : Option Step → ℕ
testing None = 0
testing (Some s) = cond (is_test s.intensity) 1 0

-- "one played test step": how many of the steps played are test steps
unfoldable pub played_tests : Workout → ℕ
played_tests w = sum (map (λ (i : ℕ). testing (step_at w i)) (range 0 (played_len w)))

-- Of the machine's next n milliseconds those in the test step.
unfoldable pub in_test : Workout → TrainingProfile → ℕ → Machine → ℕ
in_test w p zero m = 0
in_test w p (suc n) m = testing (step_at w m.step.position) + in_test w p n (millisecond w p m)

-- "ridden in it" by a call that isn't refused
abbrev pub call_time : Workout → TrainingProfile → Call → Machine → ℕ
call_time w p (read sample) m = 0
call_time w p (ride ms mm kinds values) m = in_test w p ms m
call_time w p (skip kinds values) m = 0
call_time w p (extend secs metres) m = 0

-- and by a list of such calls, from a state of the machine on.
unfoldable pub test_time : Workout → TrainingProfile → List Call → Progress → ℕ
test_time w p [] s = 0
test_time w p (c ∷ l) s = call_time w p c s.machine + test_time w p l (after_call w p c (own c) s)

-- "Let T be the milliseconds of the test step": those ridden in it, with such a power in that read
unfoldable pub whole_time : Workout → TrainingProfile → TwoLists → ℕ → ℕ
whole_time w p q watts = test_time w p (list_of q watts) begun

abbrev pub is_read : Call → Bool
is_read (read sample) = true
is_read (ride ms mm kinds values) = false
is_read (skip kinds values) = false
is_read (extend secs metres) = false

-- "while that reading was the latest": the calls up to the next read, also one without power
unfoldable pub until_read : List Call → List Call
until_read [] = []
until_read (c ∷ l) = cond (is_read c) [] (c ∷ until_read l)

-- "and t those ridden in it while that reading was the latest"
unfoldable pub latest_time : Workout → TrainingProfile → TwoLists → ℕ → ℕ
latest_time w p q watts = test_time w p (until_read q.after) (after_calls w p (alone (q.before ++ (that_read q watts ∷ []))) begun)

-- The statement.

-- "d × t / T rounded up"
unfoldable pub quotient_up : ℕ → ℕ → ℕ
quotient_up a b = (a + (b - 1)) / b

unfoldable pub most_rise : Workout → TrainingProfile → TwoLists → ℕ
most_rise w p q = quotient_up (q.rise * latest_time w p q q.watts) (whole_time w p q q.watts)

pub record Comparable (w : Workout) (p : TrainingProfile) (q : TwoLists) : Type 0 where
  -- "Take a `Twenty` workout with one played test step, without distance steps and ramp targets."
  pub taken : Taken w
  pub twenty : w.test ≡ Twenty
  pub one_test : played_tests w ≡ 1
  pub profiled : profile_ok p ≡ true
  -- "Play two lists of accepted read, ride, skip and extend calls from a fresh player"
  pub first_accepted : AllAccepted (fresh_run w p (first q)).answers
  pub second_accepted : AllAccepted (fresh_run w p (second q)).answers
  -- What the types hold: the higher power too has 16 bits.
  pub first_in_memory : InMemory w (alone (first q))
  pub second_in_memory : InMemory w (alone (second q))

-- f is the first player's FTP and g the second's.
pub record Bounded (w : Workout) (p : TrainingProfile) (q : TwoLists) (f g : ℕ) : Type 0 where
  -- T and t are those of either list, and T isn't 0
  pub some_time : 0 < whole_time w p q q.watts
  pub same_time : whole_time w p q (q.watts + q.rise) ≡ whole_time w p q q.watts
  pub same_latest : latest_time w p q (q.watts + q.rise) ≡ latest_time w p q q.watts
  -- "the second isn't lower"
  pub not_lower : f ≤ g
  -- "and exceeds the first by at most d × t / T rounded up"
  pub at_most : g ≤ f + most_rise w p q

-- "If both give an FTP", "over every such pair of lists, both roundings of the result included": the mean's and that of its 95 percent
-- are in the player's FTP.
abbrev pub OneReading : Type 0
OneReading =
    (w : Workout) (p : TrainingProfile) (q : TwoLists) → Comparable w p q → (f g : ℕ) → ftp_of w p (first q) ≡ Some f → ftp_of w p (second q) ≡ Some g
    → Bounded w p q f g
