-- Document 02, g: "Targeted plus unread is then all time ridden under a band.": of the millisecond machine, and so of the player.
use Rattle.std.specs.Prelude.{◌≡◌, Bool, true, false, cond, List, [], ◌∷◌, ℕ, zero, suc, ◌+◌, ◌/◌, None, Some, Option}
use Rattle.zones.specs.declared.TrainingProfile.{TrainingProfile}
use Rattle.zones.specs.Zones.{profile_ok}
use Rattle.model.specs.declared.Step.{Step}
use Rattle.model.specs.declared.Test.{Test}
use Rattle.model.specs.declared.Workout.{Workout}
use Rattle.model.specs.declared.Band.{Band}
use Rattle.model.specs.Target.{band_of}
use Rattle.state.specs.declared.Summary.{Summary}
use Rattle.rounds.specs.Rounds.{Riding, advanced}
use Rattle.machine.specs.Machine.{Tallies, Machine, step_at, millisecond, milliseconds}
use Rattle.machine.specs.Cutting.{Call, read, ride, skip, extend, CutCall, Piece, AllWellCut}
use Rattle.machine.specs.Runs.{Progress, begun, after_call, lasts}
use Rattle.machine.specs.ThirdDemand.{Taken, InMemory, cut_run}

-- "a band stood"
abbrev pub has_band : Option Band → Bool
has_band None = false
has_band (Some band) = true

-- A millisecond counts for 1 in a step with a band, and for 0 in one without and after the finish.
unfoldable pub banded : TrainingProfile → Option Step → ℕ → ℕ
banded p None time = 0
banded p (Some s) time = cond (has_band (band_of s.target p (time / 1000))) 1 0

-- Of the machine's next n milliseconds those under a band.
unfoldable pub banded_ms : Workout → TrainingProfile → ℕ → Machine → ℕ
banded_ms w p zero m = 0
banded_ms w p (suc n) m = banded p (step_at w m.step.position) m.step.time + banded_ms w p n (millisecond w p m)

-- "time ridden under a band" by a call: "a ride lasts the milliseconds of its pieces that aren't refused"
abbrev pub call_banded : Workout → TrainingProfile → Call → List Piece → Progress → ℕ
call_banded w p (read sample) qs s = 0
call_banded w p (ride ms mm kinds values) qs s = banded_ms w p (lasts w p kinds values qs s) s.machine
call_banded w p (skip kinds values) qs s = 0
call_banded w p (extend secs metres) qs s = 0

-- and by a list of calls, from a state of the machine on
unfoldable pub list_banded : Workout → TrainingProfile → List CutCall → Progress → ℕ
list_banded w p [] s = 0
list_banded w p (c ∷ l) s = call_banded w p c.call c.pieces s + list_banded w p l (after_call w p c.call c.pieces s)

-- "Targeted plus unread": of the machine, and of a player's summary
abbrev pub counted : Tallies → ℕ
counted t = t.targeted + t.unread

abbrev pub counted_in : Summary → ℕ
counted_in s = s.targeted_ms + s.unread_ms

pub record UnderBand : Type 0 where
  -- over the machine's milliseconds: any workout, from any state, any number of them
  pub of_machine : (w : Workout) (p : TrainingProfile) (n : ℕ) (m : Machine)
      → counted (milliseconds w p n m).tallies ≡ counted m.tallies + banded_ms w p n m
  -- and so of the player: after any list of calls that the third demand takes, cut as one likes, what is refused included
  pub of_player : (w : Workout) (p : TrainingProfile) (l : List CutCall) → Taken w → profile_ok p ≡ true → AllWellCut l → InMemory w l
      → counted_in (cut_run w p l).player.core.summary ≡ list_banded w p l begun
  -- and of each part of a ride, in every workout: its time where the step on now has a band, else nothing
  pub of_part : (test : Test) (p : TrainingProfile) (ms mm : ℕ) (s : Riding)
      → counted_in (advanced test p ms mm s).core.summary
      ≡ counted_in s.core.summary + cond (has_band (band_of s.core.on.target p (s.core.lap.step_ms / 1000))) ms 0
