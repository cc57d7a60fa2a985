-- Document 01, 'Ride sheet': "a 2-byte count n from 1 to 4,096, then n kind bytes, then n values of 8 bytes", with questions 16 and 17.
-- (A ride sheet is the paper's name for a stored list of calls with their values, and an act its name for one of them.)
use Rattle.std.specs.Prelude.{Bool, false, cond, not, ◌&&◌, ◌||◌, List, [], ◌∷◌, ℕ, zero, suc, ◌+◌, ◌*◌, ltb, leb, eqb, length, get_or, Err, None, Ok, Option, Some}
use Rattle.le.specs.Le.{number_of, part}
use Rattle.refusal.specs.declared.Refusal.{Refusal}
use Rattle.refusal.specs.declared.Refusal.TheVariants as refusals
use Rattle.zones.specs.declared.TrainingProfile.{TrainingProfile}
use Rattle.readings.specs.declared.Sample.{Sample}
use Rattle.power.specs.Power.{reading_at}
use Rattle.readings.specs.Readings.{flag_set}
use Rattle.sheet.specs.declared.Act.{Act}
use Rattle.sheet.specs.declared.Act.TheVariants.{Profile, Read, Ride, Skip, ExtendLong, Extend}
use Rattle.sheet.specs.declared.ActAnswer.{ActAnswer}

abbrev pub word2 : List ℕ → ℕ → ℕ
word2 s at = number_of (part s at 2)

abbrev pub word4 : List ℕ → ℕ → ℕ
word4 s at = number_of (part s at 4)

-- Question 16.

-- "a 2-byte count n"
abbrev pub count_in : List ℕ → ℕ
count_in s = word2 s 0

-- "length 2 + 9n, n in range? 16", the range being "from 1 to 4,096"
unfoldable pub size_ok : List ℕ → Bool
size_ok s = leb 1 (count_in s) && leb (count_in s) 4096 && eqb (length s) (2 + 9 * count_in s)

-- Acts, of a sheet of n.

-- "then n kind bytes, then n values of 8 bytes"
abbrev pub kind_in : List ℕ → ℕ → ℕ
kind_in s i = get_or s (2 + i) 0

abbrev pub place_of : ℕ → ℕ → ℕ
place_of n i = 2 + n + 8 * i

-- "profile (FTP, LTHR, 2 bytes each ..)"
abbrev pub profile_at : List ℕ → ℕ → TrainingProfile
profile_at s at = record { ftp_watts = word2 s at; lthr_bpm = word2 s (at + 2) }

-- "read (power, heart, cadence tenths, flags, 2 bytes each; flag values 1, 2, 4 say which are present)"
abbrev pub flags_at : List ℕ → ℕ → ℕ
flags_at s at = word2 s (at + 6)

abbrev pub sample_at : List ℕ → ℕ → Sample
sample_at s at =
    record {
      power_watts = reading_at (flag_set (flags_at s at) 1) (word2 s at);
      heart_bpm = reading_at (flag_set (flags_at s at) 2) (word2 s (at + 2));
      cadence_tenths = reading_at (flag_set (flags_at s at) 4) (word2 s (at + 4));
    }

-- "Kind 0 profile ..; 1 read ..; 2 ride (4-byte ms, 4-byte mm); 3 skip; 4 extend." Document 02, i: "kind 4 keeps 60 s and 500 m ..,
-- and a new kind 5 means the default".
abbrev pub acts_at : List ℕ → ℕ → List Act
acts_at s at =
    Profile (profile_at s at) ∷ Read (sample_at s at) ∷ Ride (record { 0 = word4 s at }) (record { 0 = word4 s (at + 4) })
    ∷ Skip ∷ ExtendLong ∷ []

unfoldable pub act_in : List ℕ → ℕ → ℕ → Act
act_in s n i = get_or (acts_at s (place_of n i)) (kind_in s i) Extend

-- k acts from place i on
unfoldable pub acts_from : List ℕ → ℕ → ℕ → ℕ → List Act
acts_from s n i zero = []
acts_from s n i (suc k) = act_in s n i ∷ acts_from s n (i + 1) k

-- Question 17.

-- "absent readings are 0; a present reading may be 0"
abbrev pub absent_ok : Bool → ℕ → Bool
absent_ok present value = present || eqb value 0

-- "other flags .. are 0": those from 8 on
unfoldable pub sample_ok : List ℕ → ℕ → Bool
sample_ok s at =
    leb (flags_at s at) 7
    && (absent_ok (flag_set (flags_at s at) 1) (word2 s at)
    && absent_ok (flag_set (flags_at s at) 2) (word2 s (at + 2))
    && absent_ok (flag_set (flags_at s at) 4) (word2 s (at + 4)))

-- "Unused bytes .. are 0": four of them
abbrev pub unused_at : List ℕ → ℕ → Bool
unused_at s at = eqb (word4 s at) 0

-- skip and both extends: all eight
abbrev pub valueless_ok : Bool → List ℕ → ℕ → Bool
valueless_ok first s at = not first && (unused_at s at && unused_at s (at + 4))

-- "(the first act and no other)": the first act is a profile, and no later one is
abbrev pub act_by : Bool → List ℕ → ℕ → ℕ → Bool
act_by first s at kind =
    get_or
    ((first && unused_at s (at + 4))
    ∷ (not first && sample_ok s at)
    ∷ not first ∷ valueless_ok first s at ∷ valueless_ok first s at ∷ valueless_ok first s at ∷ []) kind false

-- "Each act well formed? 17."
unfoldable pub act_ok : List ℕ → ℕ → ℕ → Bool
act_ok s n i = act_by (eqb i 0) s (place_of n i) (kind_in s i)

-- The first act at fault from place i on, of k acts; the place behind them where there is none.
unfoldable pub fault_from : List ℕ → ℕ → ℕ → ℕ → ℕ
fault_from s n i zero = i
fault_from s n i (suc k) = cond (act_ok s n i) (fault_from s n (i + 1) k) i

-- Both questions.

abbrev pub accepted_all : ActAnswer
accepted_all = record { answer = (Ok tt); act = None }

abbrev pub refused_at : Refusal → Option ℕ → ActAnswer
refused_at refusal act = record { answer = Err refusal; act = act }

-- "17 and all refusals of acts name the first act at fault"
abbrev pub fault_answer : ℕ → ℕ → ActAnswer
fault_answer fault n = cond (ltb fault n) (refused_at refusals.Act (Some fault)) accepted_all

-- "Sheet: length 2 + 9n, n in range? 16. Each act well formed? 17."
unfoldable pub check_of : List ℕ → ActAnswer
check_of s = cond (size_ok s) (fault_answer (fault_from s (count_in s) 0 (count_in s)) (count_in s)) (refused_at refusals.SheetLength None)
