-- Document 02, l: "Records depend on the bike's own calls and never on the grant."
use Rattle.std.specs.Prelude.{◌≡◌, Bool, cond, List, [], ◌∷◌, ℕ, zero, suc, eqb}
use Rattle.frame.specs.declared.Bike.{Bike}
use Rattle.frame.specs.declared.Granted.{Granted}
use Rattle.frame.specs.Frame.{grant_of}
use Rattle.machine.specs.Cutting.{Call}
use Rattle.machine.specs.Runs.{called, run}
use Rattle.machine.specs.ThirdDemand.{player_record}

-- What the frame's console does: a read, ride, skip or extend of one bike, or a grant of a supply for one bike.
pub data FrameCall : Type 0 where
  call : ℕ → Call → FrameCall
  grant : ℕ → ℕ → FrameCall

-- The bikes with one of them changed; there is none past the last.
unfoldable pub changed_at : ℕ → (Bike → Bike) → List Bike → List Bike
changed_at i change [] = []
changed_at zero change (b ∷ bs) = change b ∷ bs
changed_at (suc i) change (b ∷ bs) = b ∷ changed_at i change bs

-- A call gets the player that the bike's last one returned, and the bike's profile.
abbrev pub after_call : Call → Bike → Bike
after_call c b = record { player = (called b.profile c b.player).player; profile = b.profile }

-- The bikes after a list, and what was granted as it ran.
pub record FrameRun : Type 0 where
  pub bikes : List Bike
  pub grants : List Granted

unfoldable pub frame_run : List FrameCall → List Bike → FrameRun
frame_run [] bikes = record { bikes = bikes; grants = [] }
frame_run (call i c ∷ l) bikes = frame_run l (changed_at i (after_call c) bikes)
frame_run (grant supply i ∷ l) bikes =
    record { bikes = (frame_run l bikes).bikes; grants = grant_of bikes supply i ∷ (frame_run l bikes).grants }

-- "the bike's own calls"
unfoldable pub own_calls : ℕ → List FrameCall → List Call
own_calls i [] = []
own_calls i (call j c ∷ l) = cond (eqb i j) (c ∷ own_calls i l) (own_calls i l)
own_calls i (grant supply j ∷ l) = own_calls i l

-- A bike after its own calls alone.
unfoldable pub alone : List FrameCall → ℕ → Bike → Bike
alone l i b = record { player = (run b.profile (own_calls i l) b.player).player; profile = b.profile }

unfoldable pub records_of : List Bike → ℕ → ℕ → ℕ → Bool → List (List ℕ)
records_of [] journal id start dated = []
records_of (b ∷ bs) journal id start dated = player_record b.player journal id start dated ∷ records_of bs journal id start dated

-- Four bikes of whatever content, and every list of their calls and of grants, with whatever arguments.
pub record RecordsApart : Type 0 where
  pub players : (l : List FrameCall) (a b c d : Bike)
      → (frame_run l (a ∷ b ∷ c ∷ d ∷ [])).bikes ≡ alone l 0 a ∷ alone l 1 b ∷ alone l 2 c ∷ alone l 3 d ∷ []
  pub records : (l : List FrameCall) (a b c d : Bike) (journal id start : ℕ) (dated : Bool)
      → records_of (frame_run l (a ∷ b ∷ c ∷ d ∷ [])).bikes journal id start dated
      ≡ player_record (alone l 0 a).player journal id start dated ∷ player_record (alone l 1 b).player journal id start dated
      ∷ player_record (alone l 2 c).player journal id start dated ∷ player_record (alone l 3 d).player journal id start dated ∷ []
