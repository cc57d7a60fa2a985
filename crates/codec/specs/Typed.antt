-- The values that a workout's types hold: definitions speak of all numbers and lists, a workout in memory has those that fit.
use Rattle.std.specs.Prelude.{◌≡◌, List, [], ◌∷◌, ℕ, ◌<◌, length}
use Rattle.names.specs.declared.Name.{Name}
use Rattle.model.specs.declared.Length.{Length}
use Rattle.model.specs.declared.Length.TheVariants.{Time, Distance, Open}
use Rattle.model.specs.declared.Target.{Target}
use Rattle.model.specs.declared.Target.TheVariants.{Free, Ftp, Watts, HeartZone, Lthr, Cadence, Ramp, FtpRamp}
use Rattle.model.specs.declared.Step.{Step}
use Rattle.model.specs.declared.Workout.{Workout}

-- `u16` seconds, `u32` metres
abbrev pub LengthFits : Length → Type 0
LengthFits (Time secs) = secs < 65536
LengthFits (Distance metres) = metres < 4294967296
LengthFits Open = Unit

-- two numbers below a bound
abbrev pub Below : ℕ → ℕ → ℕ → Type 0
Below n a b = (a < n) × (b < n)

abbrev pub TargetFits : Target → Type 0
TargetFits Free = Unit
TargetFits (Ftp low high) = Below 256 low high
TargetFits (Watts low high) = Below 65536 low high
TargetFits (HeartZone zone) = zone < 256
TargetFits (Lthr low high) = Below 256 low high
TargetFits (Cadence low high) = Below 256 low high
TargetFits (Ramp start step every) = (start < 65536) × (step < 65536) × (every < 65536)
TargetFits (FtpRamp start step every) = (start < 256) × (step < 256) × (every < 65536)

-- a name's array has 20 places
abbrev pub NameFits : Name → Type 0
NameFits n = length n.bytes ≡ 20

pub record StepFits (s : Step) : Type 0 where
  pub lasts : LengthFits s.length
  pub aims : TargetFits s.target
  pub noted : NameFits s.note

-- every element fits
abbrev pub AllFit : {A : Type 0} → (A → Type 0) → List A → Type 0
AllFit fits [] = Unit
AllFit fits (x ∷ xs) = fits x × AllFit fits xs

-- a workout in memory: 12 places for steps, 8 for blocks, and numbers that fit
pub record WorkoutFits (w : Workout) : Type 0 where
  pub named : NameFits w.name
  pub steps : AllFit StepFits w.steps
  pub twelve : length w.steps ≡ 12
  pub eight : length w.blocks ≡ 8
