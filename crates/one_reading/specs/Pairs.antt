-- Pairs of lists that `OneReading` speaks of, with the players' FTPs and document 02's t and T in numbers. In each the second FTP is the
-- first plus the whole bound, so that no smaller bound is true. And a pair that shows why the workout plays one test step only.
use Rattle.std.specs.Prelude.{◌≡◌, List, [], ◌∷◌, ℕ, ◌+◌, ◌*◌, ◌/◌, ◌<◌, None, Some}
use Rattle.model.specs.declared.Intensity.TheVariants.{Warmup, Cooldown}
use Rattle.model.specs.declared.Intensity.TheVariants as intensities
use Rattle.model.specs.declared.Target.TheVariants.{Free}
use Rattle.model.specs.declared.Test.TheVariants.{Twenty}
use Rattle.model.specs.declared.Workout.{Workout}
use Rattle.machine.specs.Cutting.{Call, read, ride, skip, extend}
use Rattle.machine.specs.Samples.{step, workout, pair, profile, watts}
use Rattle.one_reading.specs.OneReading.{TwoLists, first, second, ftp_of, played_tests, whole_time, latest_time, quotient_up, most_rise, Comparable}

abbrev pub read_at : ℕ → Call
read_at n = read (watts (Some n))

abbrev pub ride_for : ℕ → Call
ride_for ms = ride ms 0 193 193

abbrev pub differing : List Call → ℕ → ℕ → List Call → TwoLists
differing before n rise after =
    record { before = before; watts = n; rise = rise; heart = None; cadence = None; after = after }

-- 100 W in all of a test but its last millisecond, then 599 W or some more.
abbrev pub short_test : Workout
short_test = workout Twenty (step intensities.Test 1 Free ∷ [])

abbrev pub last_ms : ℕ → TwoLists
last_ms rise = differing (read_at 100 ∷ ride_for 999 ∷ []) 599 rise (ride_for 1 ∷ [])

-- A test of 1 s between two other steps, the first of them skipped, the test made longer by 1 s. That reading is the latest for 600 ms of
-- it: in them come a ride of 0 ms and the extend, and a read without power ends them.
abbrev pub among_steps : Workout
among_steps = workout Twenty (step Warmup 1 Free ∷ step intensities.Test 1 Free ∷ step Cooldown 1 Free ∷ [])

abbrev pub part_of_test : TwoLists
part_of_test =
    differing (read_at 300 ∷ ride_for 400 ∷ skip 193 193 ∷ read_at 174 ∷ ride_for 500 ∷ []) 210 60
    (ride_for 100 ∷ extend 1 0 ∷ ride_for 0 ∷ ride_for 500 ∷ read (watts None) ∷ ride_for 150 ∷ read_at 68 ∷ ride_for 1250 ∷ [])

-- Two tests of which that reading is in the second alone.
abbrev pub in_second_test : TwoLists
in_second_test = differing (read_at 111 ∷ ride_for 2000 ∷ []) 111 19 (ride_for 1000 ∷ [])

-- The players' FTPs, t and T.
pub record Gives (w : Workout) (q : TwoLists) (f g t T : ℕ) : Type 0 where
  pub first_ftp : ftp_of w profile (first q) ≡ Some f
  pub second_ftp : ftp_of w profile (second q) ≡ Some g
  pub latest : latest_time w profile q q.watts ≡ t
  pub whole : whole_time w profile q q.watts ≡ T

pub record SamplePairs : Type 0 where
  -- d 1, t 1, T 1,000: rounded down the bound would be 0
  pub last-ms : Comparable short_test profile (last_ms 1) × Gives short_test (last_ms 1) 95 96 1 1000
  pub last_ms_met : 95 + most_rise short_test profile (last_ms 1) ≡ 96
  pub rounded_down : 95 + 1 * 1 / 1000 < 96
  -- d 1,001, t 1, T 1,000: of 95 percent, as an FTP is of the mean, the bound would be 1
  pub percent : Comparable short_test profile (last_ms 1001) × Gives short_test (last_ms 1001) 95 97 1 1000
  pub percent_met : 95 + most_rise short_test profile (last_ms 1001) ≡ 97
  pub of_95_percent : 95 + quotient_up (95 * (1001 * 1)) (100 * 1000) < 97
  -- d 60, t 600, T 2,000: the bound is 18
  pub part-of-test : Comparable among_steps profile part_of_test × Gives among_steps part_of_test 125 143 600 2000
  pub part_of_test_met : 125 + most_rise among_steps profile part_of_test ≡ 143
  -- with two test steps, d 19, t 1,000 and T 3,000, the second FTP is above the bound, which is 7
  pub two-tests : (played_tests (pair Twenty) ≡ 2) × Gives (pair Twenty) in_second_test 105 124 1000 3000
  pub two_tests_above : 105 + most_rise (pair Twenty) profile in_second_test < 124
