-- Document 01, 'Workout file': the bytes that a step is written as. "Filler values .. written as 0".
use Rattle.std.specs.Prelude.{List, [], ◌∷◌, ◌++◌, ℕ}
use Rattle.le.specs.Le.{bytes_of}
use Rattle.model.specs.declared.Intensity.{Intensity}
use Rattle.model.specs.declared.Intensity.TheVariants.{Warmup, Work, Recovery, Cooldown, Test}
use Rattle.model.specs.declared.Length.{Length}
use Rattle.model.specs.declared.Length.TheVariants.{Time, Distance, Open}
use Rattle.model.specs.declared.Target.{Target}
use Rattle.model.specs.declared.Target.TheVariants.{Free, Ftp, Watts, HeartZone, Lthr, Cadence, Ramp, FtpRamp}
use Rattle.model.specs.declared.Step.{Step}
use Rattle.cursor.specs.Names.{name_bytes}

abbrev pub intensity_kind : Intensity → ℕ
intensity_kind Warmup = 0
intensity_kind Work = 1
intensity_kind Recovery = 2
intensity_kind Cooldown = 3
intensity_kind Test = 4

abbrev pub length_kind : Length → ℕ
length_kind (Time secs) = 0
length_kind (Distance metres) = 1
length_kind Open = 2

abbrev pub length_value : Length → ℕ
length_value (Time secs) = secs
length_value (Distance metres) = metres
length_value Open = 0

abbrev pub target_kind : Target → ℕ
target_kind Free = 0
target_kind (Ftp low high) = 1
target_kind (Watts low high) = 2
target_kind (HeartZone zone) = 3
target_kind (Lthr low high) = 4
target_kind (Cadence low high) = 5
target_kind (Ramp start step every) = 6
target_kind (FtpRamp start step every) = 7

-- a target's three values
abbrev pub first_value : Target → ℕ
first_value Free = 0
first_value (Ftp low high) = low
first_value (Watts low high) = low
first_value (HeartZone zone) = zone
first_value (Lthr low high) = low
first_value (Cadence low high) = low
first_value (Ramp start step every) = start
first_value (FtpRamp start step every) = start

abbrev pub second_value : Target → ℕ
second_value Free = 0
second_value (Ftp low high) = high
second_value (Watts low high) = high
second_value (HeartZone zone) = 0
second_value (Lthr low high) = high
second_value (Cadence low high) = high
second_value (Ramp start step every) = step
second_value (FtpRamp start step every) = step

abbrev pub third_value : Target → ℕ
third_value Free = 0
third_value (Ftp low high) = 0
third_value (Watts low high) = 0
third_value (HeartZone zone) = 0
third_value (Lthr low high) = 0
third_value (Cadence low high) = 0
third_value (Ramp start step every) = every
third_value (FtpRamp start step every) = every

-- "intensity ..; length kind .. and 4-byte value; target kind and three 2-byte values; a zero byte"
unfoldable pub fixed_bytes : Intensity → Length → Target → List ℕ
fixed_bytes i l t =
    (intensity_kind i ∷ length_kind l ∷ [])
    ++ (bytes_of 4 (length_value l)
    ++ ((target_kind t ∷ []) ++ (bytes_of 2 (first_value t) ++ (bytes_of 2 (second_value t) ++ (bytes_of 2 (third_value t) ++ (0 ∷ []))))))

-- "its note, a name"
unfoldable pub step_bytes : Step → List ℕ
step_bytes s = fixed_bytes s.intensity s.length s.target ++ name_bytes s.note
