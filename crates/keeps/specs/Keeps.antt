-- Document 01, 'Standing': "Every call keeps it." A player that stands stands after every call, and a fresh one of a workout that
-- passes 5 to 9 stands.
use Rattle.std.specs.Prelude.{◌≡◌, true, false, ℕ, ◌<◌, length, Ok}
use Rattle.zones.specs.declared.TrainingProfile.{TrainingProfile}
use Rattle.model.specs.declared.Workout.{Workout}
use Rattle.model.specs.Workout.{empty_workout}
use Rattle.validation.specs.Sound.{workout_answer}
use Rattle.readings.specs.declared.Sample.{Sample}
use Rattle.power.specs.Power.{or_zero}
use Rattle.state.specs.declared.Player.{Player}
use Rattle.standing.specs.Standing.{standing_of}
use Rattle.start.specs.Start.{fresh}
use Rattle.player.specs.Calls.{ride_of, read_of, add_of, skip_of, extend_with}

-- A reading fits its 16 bits, as every sample's in memory does.
abbrev pub PowerFits : Sample → Type 0
PowerFits sample = or_zero sample.power_watts < 65536

-- A player in memory: its workout has 12 places for steps, its last reading 16 bits.
pub record PlayerFits (p : Player) : Type 0 where
  pub twelve : length p.workout.steps ≡ 12
  pub power : PowerFits p.core.readings.last_sample

pub record KeepsStanding : Type 0 where
  pub new : (w : Workout) → length w.steps ≡ 12 → workout_answer w ≡ Ok tt → standing_of (fresh w) ≡ true
  -- "a refused `new` a player of it, which doesn't stand"
  pub refused : standing_of (fresh empty_workout) ≡ false
  pub read : (p : Player) (sample : Sample) → standing_of p ≡ true → standing_of (read_of p sample).player ≡ true
  pub ride : (p : Player) (ms mm : ℕ) (f : TrainingProfile) (kinds values : ℕ) → PlayerFits p → standing_of p ≡ true
      → standing_of (ride_of p ms mm f kinds values).player ≡ true
  pub add : (p : Player) (ms mm : ℕ) (sample : Sample) (f : TrainingProfile) (kinds values : ℕ) → PlayerFits p → PowerFits sample → standing_of p ≡ true
      → standing_of (add_of p ms mm sample f kinds values).player ≡ true
  pub skip : (p : Player) (kinds values : ℕ) → PlayerFits p → standing_of p ≡ true → standing_of (skip_of p kinds values).player ≡ true
  -- by any amount (document 02, i), the plain call's too
  pub extend : (p : Player) (secs metres : ℕ) → standing_of p ≡ true → standing_of (extend_with secs metres p).player ≡ true
