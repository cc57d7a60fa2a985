-- Ride sheets are accepted: what is written of a list of acts passes questions 16 and 17 and is read as that list, and a sheet that
-- passes them is the one written from what is read of it.
use Rattle.std.specs.Prelude.{◌≡◌, List, [], ◌∷◌, ℕ, None, Ok, Some}
use Rattle.le.specs.Le.{Bytes}
use Rattle.sheet.specs.declared.Act.{Act}
use Rattle.sheet.specs.declared.Act.TheVariants.{Profile, Read, Ride, Skip, ExtendLong, Extend}
use Rattle.sheet.specs.Sheet.{count_in, acts_from, accepted_all, check_of}
use Rattle.sheet.specs.Bytes.{sheet_bytes, IsSheet}

-- All acts of a sheet.
abbrev pub acts_of : List ℕ → List Act
acts_of s = acts_from s (count_in s) 0 (count_in s)

pub record WrittenIsRead : Type 0 where
  pub accepted : (acts : List Act) → IsSheet acts → check_of (sheet_bytes acts) ≡ accepted_all
  pub same : (acts : List Act) → IsSheet acts → acts_of (sheet_bytes acts) ≡ acts

pub record ReadIsWritten : Type 0 where
  pub is_sheet : (s : List ℕ) → Bytes s → (check_of s).answer ≡ Ok tt → IsSheet (acts_of s)
  pub same : (s : List ℕ) → Bytes s → (check_of s).answer ≡ Ok tt → sheet_bytes (acts_of s) ≡ s

-- A sheet with an act of each kind: FTP 200 W and LTHR 160, 150 W and a cadence of 90.0 without a heart rate, 10,000 ms with 70,000 mm.
abbrev pub sample : List Act
sample =
    Profile (record { ftp_watts = 200; lthr_bpm = 160 })
    ∷ Read (record { power_watts = Some 150; heart_bpm = None; cadence_tenths = Some 900 })
    ∷ Ride (record { 0 = 10000 }) (record { 0 = 70000 }) ∷ Skip ∷ ExtendLong ∷ Extend ∷ []

pub record SampleSheet : Type 0 where
  pub is : IsSheet sample
  pub bytes : sheet_bytes sample
      ≡ 6 ∷ 0
      ∷ 0 ∷ 1 ∷ 2 ∷ 3 ∷ 4 ∷ 5
      ∷ 200 ∷ 0 ∷ 160 ∷ 0 ∷ 0 ∷ 0 ∷ 0 ∷ 0
      ∷ 150 ∷ 0 ∷ 0 ∷ 0 ∷ 132 ∷ 3 ∷ 5 ∷ 0
      ∷ 16 ∷ 39 ∷ 0 ∷ 0 ∷ 112 ∷ 17 ∷ 1 ∷ 0
      ∷ 0 ∷ 0 ∷ 0 ∷ 0 ∷ 0 ∷ 0 ∷ 0 ∷ 0
      ∷ 0 ∷ 0 ∷ 0 ∷ 0 ∷ 0 ∷ 0 ∷ 0 ∷ 0
      ∷ 0 ∷ 0 ∷ 0 ∷ 0 ∷ 0 ∷ 0 ∷ 0 ∷ 0 ∷ []
