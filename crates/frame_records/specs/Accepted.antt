-- On bikes that start sound no grant is ever refused, whatever their calls: document 01's "Every call keeps it", of four bikes.
use Rattle.std.specs.Prelude.{◌≡◌, true, List, [], ◌∷◌, ℕ, ◌≤◌, length, Ok}
use Rattle.zones.specs.declared.TrainingProfile.{TrainingProfile}
use Rattle.zones.specs.Zones.{profile_ok}
use Rattle.model.specs.declared.Workout.{Workout}
use Rattle.validation.specs.Sound.{workout_answer}
use Rattle.standing.specs.Standing.{standing_of}
use Rattle.start.specs.Start.{new_of}
use Rattle.keeps.specs.Keeps.{PlayerFits}
use Rattle.frame.specs.declared.Bike.{Bike}
use Rattle.frame.specs.Frame.{grant_of}
use Rattle.machine.specs.Cutting.{ReadFits}
use Rattle.frame_records.specs.Apart.{FrameCall, call, grant, frame_run}

-- A bike in memory that passes 20 and 10.
pub record Sound (b : Bike) : Type 0 where
  pub stands : standing_of b.player ≡ true
  pub profiled : profile_ok b.profile ≡ true
  pub fits : PlayerFits b.player

-- What the types hold: every reading's power has 16 bits.
abbrev pub AllReadsFit : List FrameCall → Type 0
AllReadsFit [] = Unit
AllReadsFit (call i c ∷ l) = ReadFits c × AllReadsFit l
AllReadsFit (grant supply i ∷ l) = AllReadsFit l

pub record GrantsAccepted : Type 0 where
  -- a fresh player of a workout that passes 5 to 9, under a profile that passes 10
  pub fresh : (w : Workout) (f : TrainingProfile) → length w.steps ≡ 12 → workout_answer w ≡ Ok tt → profile_ok f ≡ true
      → Sound (record { player = (new_of w).player; profile = f })
  -- after any list of calls, refused ones among them, with grants between
  pub accepted : (l : List FrameCall) (a b c d : Bike) → Sound a → Sound b → Sound c → Sound d → AllReadsFit l → (supply bike : ℕ) → bike ≤ 3
      → (grant_of (frame_run l (a ∷ b ∷ c ∷ d ∷ [])).bikes supply bike).answer ≡ Ok tt
