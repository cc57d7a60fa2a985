-- Document 02, c: "With arrays of exactly that length each update gives the events it gave with 193."
use Rattle.std.specs.Prelude.{◌≡◌, true, ℕ, ◌<◌, min, Err, Ok}
use Rattle.refusal.specs.declared.Refusal.TheVariants as refusals
use Rattle.zones.specs.declared.TrainingProfile.{TrainingProfile}
use Rattle.readings.specs.declared.Sample.{Sample}
use Rattle.state.specs.declared.Player.{Player}
use Rattle.state.specs.State.{event_places}
use Rattle.standing.specs.Standing.{standing_of}
use Rattle.outcomes.specs.Outcomes.{eventless}
use Rattle.player.specs.Calls.{places_ok, ride_of, add_of, skip_of}

-- "exactly that length"
abbrev pub wanted : Player → ℕ
wanted p = event_places p.core

-- Of every player: one that doesn't stand is refused 20 with either. Answer, player and parts are the same as well.
pub record SmallArrays : Type 0 where
  pub ride : (p : Player) (ms mm : ℕ) (f : TrainingProfile) → ride_of p ms mm f (wanted p) (wanted p) ≡ ride_of p ms mm f 193 193
  pub add : (p : Player) (ms mm : ℕ) (sample : Sample) (f : TrainingProfile) → add_of p ms mm sample f (wanted p) (wanted p) ≡ add_of p ms mm sample f 193 193
  pub skip : (p : Player) → skip_of p (wanted p) (wanted p) ≡ skip_of p 193 193
  -- "it gave with 193": question 14 passes 193 places, as it did before
  pub passed : (p : Player) → standing_of p ≡ true → places_ok p.core 193 193 ≡ true
  -- and neither array can have a place fewer
  pub fewer : (p : Player) (kinds values : ℕ) → standing_of p ≡ true → min kinds values < wanted p
      → skip_of p kinds values ≡ eventless (Err refusals.EventPlaces) p
  -- what is lent exactly that much is taken
  pub taken : (p : Player) → standing_of p ≡ true → (skip_of p (wanted p) (wanted p)).answer ≡ Ok tt
