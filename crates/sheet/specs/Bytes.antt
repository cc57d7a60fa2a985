-- Document 01, 'Ride sheet': the bytes that a list of acts is written as.
use Rattle.std.specs.Prelude.{◌≡◌, Bool, true, false, not, ◌&&◌, ℕ, ◌+◌, ◌≤◌, ◌<◌, length, replicate, None, Option, Some}
use mathlib.Core.List.{List, [], ◌∷◌, ◌++◌, map, flat_map}
use Rattle.common.specs.Lists.{all}
use Rattle.le.specs.Le.{bytes_of}
use Rattle.power.specs.Power.{or_zero}
use Rattle.readings.specs.declared.Sample.{Sample}
use Rattle.sheet.specs.declared.Act.{Act}
use Rattle.sheet.specs.declared.Act.TheVariants.{Profile, Read, Ride, Skip, ExtendLong, Extend}

-- "Kind 0 profile ..; 1 read ..; 2 ride ..; 3 skip; 4 extend." Document 02, i: "kind 4 keeps 60 s and 500 m ..", "a new kind 5".
abbrev pub kind_of : Act → ℕ
kind_of (Profile p) = 0
kind_of (Read sample) = 1
kind_of (Ride ms mm) = 2
kind_of Skip = 3
kind_of ExtendLong = 4
kind_of Extend = 5

-- "flag values 1, 2, 4 say which are present"
abbrev pub flag_if : Option ℕ → ℕ → ℕ
flag_if None value = 0
flag_if (Some reading) value = value

abbrev pub flags_of : Sample → ℕ
flags_of s = flag_if s.power_watts 1 + flag_if s.heart_bpm 2 + flag_if s.cadence_tenths 4

-- "values of 8 bytes": "profile (FTP, LTHR, 2 bytes each ..)", "read (power, heart, cadence tenths, flags, 2 bytes each ..)", "ride
-- (4-byte ms, 4-byte mm)". "Unused bytes, other flags and absent readings are 0".
unfoldable pub value_of : Act → List ℕ
value_of (Profile p) = bytes_of 2 p.ftp_watts ++ (bytes_of 2 p.lthr_bpm ++ replicate 4 0)
value_of (Read s) =
    bytes_of 2 (or_zero s.power_watts)
    ++ (bytes_of 2 (or_zero s.heart_bpm) ++ (bytes_of 2 (or_zero s.cadence_tenths) ++ bytes_of 2 (flags_of s)))
value_of (Ride ms mm) = bytes_of 4 ms.0 ++ bytes_of 4 mm.0
value_of Skip = replicate 8 0
value_of ExtendLong = replicate 8 0
value_of Extend = replicate 8 0

-- "a 2-byte count n .., then n kind bytes, then n values of 8 bytes"
unfoldable pub sheet_bytes : List Act → List ℕ
sheet_bytes acts = bytes_of 2 (length acts) ++ (map kind_of acts ++ flat_map value_of acts)

-- The lists of acts that a sheet can hold.

abbrev pub is_profile : Act → Bool
is_profile (Profile p) = true
is_profile (Read sample) = false
is_profile (Ride ms mm) = false
is_profile Skip = false
is_profile ExtendLong = false
is_profile Extend = false

abbrev pub is_call : Act → Bool
is_call act = not (is_profile act)

-- "profile (.. the first act and no other)"
abbrev pub opens : List Act → Bool
opens [] = false
opens (act ∷ acts) = is_profile act && all is_call acts

-- Values that their bytes hold.
abbrev pub ActFits : Act → Type 0
ActFits (Profile p) = (p.ftp_watts < 65536) × (p.lthr_bpm < 65536)
ActFits (Read s) = (or_zero s.power_watts < 65536) × (or_zero s.heart_bpm < 65536) × (or_zero s.cadence_tenths < 65536)
ActFits (Ride ms mm) = (ms.0 < 4294967296) × (mm.0 < 4294967296)
ActFits Skip = Unit
ActFits ExtendLong = Unit
ActFits Extend = Unit

abbrev pub AllFit : List Act → Type 0
AllFit [] = Unit
AllFit (act ∷ acts) = ActFits act × AllFit acts

-- "a 2-byte count n from 1 to 4,096"; a list that begins with a profile has one act or more.
pub record IsSheet (acts : List Act) : Type 0 where
  pub most : length acts ≤ 4096
  pub opened : opens acts ≡ true
  pub fits : AllFit acts
