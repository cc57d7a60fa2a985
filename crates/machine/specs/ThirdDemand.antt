-- The third demand: one claim about a whole list of calls and its cutting. In plain words:
--
-- Take a workout without distance steps and ramp targets that passes questions 5 to 9 (`Taken`), a profile that passes question 10
-- (`profile_ok`), and a list of reads, rides, skips and extends with any arguments (`List CutCall`). Each ride of the list comes with
-- the pieces that it is cut into: one or more rides whose times and distances add up to its own (`AllWellCut`). `InMemory` says only
-- what a computer's types hold anyway. Play the cut list on a fresh player (`cut_run`), and hand the uncut list with the pieces to the
-- millisecond machine (`after_calls`). Then (`Claim`), after the first n calls of the uncut list, for every n from 0 on (`After`):
--   the record written of the player is, byte for byte, the record written of the machine (`bytes`);
--   the started, finished and FTP events that the player has given are the machine's, in order (`events`);
--   the calls of the cut list were refused, or not, as the machine's own questions say (`answers`);
-- and where nothing of the uncut list, played as it stands, is refused, nothing of the cut one is (`unrefused`).
--
-- The statement itself, `ThirdDemand`, stands below those definitions; `machine::third_demand` proves it. docs/READING.md has a legend
-- of the notation.
use Rattle.std.specs.Prelude.{◌≡◌, Bool, true, false, cond, ◌&&◌, not, List, [], ◌∷◌, reverse, ℕ, ◌<◌, leb, length, take, Err, Ok, Result, ⊤}
use Rattle.common.specs.Lists.{all}
use Rattle.refusal.specs.declared.Refusal.{Refusal}
use Rattle.zones.specs.declared.TrainingProfile.{TrainingProfile}
use Rattle.zones.specs.Zones.{profile_ok}
use Rattle.model.specs.declared.Length.{Length}
use Rattle.model.specs.declared.Length.TheVariants.{Time, Distance, Open}
use Rattle.model.specs.declared.Target.{Target}
use Rattle.model.specs.declared.Target.TheVariants.{Free, Ftp, Watts, HeartZone, Lthr, Cadence, Ramp, FtpRamp}
use Rattle.model.specs.declared.Step.{Step}
use Rattle.model.specs.declared.Workout.{Workout}
use Rattle.model.specs.Workout.{steps_of}
use Rattle.validation.specs.Sound.{workout_answer}
use Rattle.events.specs.Events.{Event}
use Rattle.state.specs.declared.Player.{Player}
use Rattle.start.specs.Start.{new_of}
use Rattle.history.specs.Record.{record_of, record_bytes}
use Rattle.machine.specs.Machine.{Machine, greatest, milliseconds, summary_of}
use Rattle.machine.specs.Cutting.{Call, CutCall, Piece, uncut, cut, alone, sum_ms, AllWellCut, ReadsFit}
use Rattle.machine.specs.Runs.{called, Run, run, Progress, begun, after_pieces, after_calls, pieces_ask, calls_ask, lasts}

-- "A distance step has length kind 1"
abbrev pub is_distance : Length → Bool
is_distance (Time secs) = false
is_distance (Distance metres) = true
is_distance Open = false

-- "a ramp target is kind 6 or 7"
abbrev pub is_ramp : Target → Bool
is_ramp Free = false
is_ramp (Ftp low high) = false
is_ramp (Watts low high) = false
is_ramp (HeartZone zone) = false
is_ramp (Lthr low high) = false
is_ramp (Cadence low high) = false
is_ramp (Ramp start step every) = true
is_ramp (FtpRamp start step every) = true

abbrev pub is_plain : Step → Bool
is_plain s = not (is_distance s.length) && not (is_ramp s.target)

-- "every workout without distance steps and ramp targets .. that pass document 01's questions"
pub record Taken (w : Workout) : Type 0 where
  pub passes : workout_answer w ≡ Ok tt
  pub plain : all is_plain (steps_of w) ≡ true

-- What the types hold of a workout and a list: twelve places for steps, and 16 bits for a reading's power. `codec::workout_fits` and
-- `machine::reading_fits` show it of all that is in memory.
pub record InMemory (w : Workout) (l : List CutCall) : Type 0 where
  pub twelve : length w.steps ≡ 12
  pub reads : ReadsFit l

-- "The stored record is what the record writer gives for the player": the bytes of the workout's name and test, the player's summary, and
-- journal, id, start and whether it is dated.
abbrev pub player_record : Player → ℕ → ℕ → ℕ → Bool → List ℕ
player_record player journal id start dated =
    record_bytes (record_of player.workout.name player.workout.test player.core.summary journal id start dated)

-- "Its record is the writer's, of these fields, the workout's name, test and played length, and the journal, id and start handed in."
abbrev pub machine_record : Workout → Machine → ℕ → ℕ → ℕ → Bool → List ℕ
machine_record w m journal id start dated = record_bytes (record_of w.name w.test (summary_of w m) journal id start dated)

-- "those of kinds 1 to 3"
abbrev pub is_compared : Event → Bool
is_compared e = leb 1 e.kind && leb e.kind 3

unfoldable pub compared : List Event → List Event
compared [] = []
compared (e ∷ es) = cond (is_compared e) (e ∷ compared es) (compared es)

-- "The list starts from the player that `new` gives for the workout", and runs cut.
abbrev pub cut_run : Workout → TrainingProfile → List CutCall → Run
cut_run w p l = run p (cut l) (new_of w).player

abbrev pub uncut_run : Workout → TrainingProfile → List CutCall → Run
uncut_run w p l = run p (uncut l) (new_of w).player

-- After all calls of a list.
pub record After (w : Workout) (p : TrainingProfile) (l : List CutCall) : Type 0 where
  -- "the stored record is byte for byte that of document 01's millisecond machine, fed the uncut list", "with whatever journal, id
  -- and start"
  pub bytes : (journal id start : ℕ) (dated : Bool)
      → player_record (cut_run w p l).player journal id start dated ≡ machine_record w (after_calls w p l begun).machine journal id start dated
  -- "The started, finished and FTP events given so far are exactly that machine's, in order."
  pub events : compared (cut_run w p l).events ≡ (after_calls w p l begun).machine.given.events
  -- What is refused as the cut list runs is what the machine's own questions refuse, call by call.
  pub answers : (cut_run w p l).answers ≡ calls_ask w p l begun

-- Nothing is refused.
abbrev pub AllAccepted : List (Result ⊤ Refusal) → Type 0
AllAccepted [] = Unit
AllAccepted (answer ∷ answers) = (answer ≡ Ok tt) × AllAccepted answers

pub record Claim (w : Workout) (p : TrainingProfile) (l : List CutCall) : Type 0 where
  -- "at the start, and after each call of the uncut list"
  pub after : (n : ℕ) → After w p (take n l)
  -- "Where the uncut list, played as it stands, has nothing refused, the cut one hasn't either."
  pub unrefused : AllAccepted (uncut_run w p l).answers → AllAccepted (cut_run w p l).answers

abbrev pub ThirdDemand : Type 0
ThirdDemand =
    (w : Workout) (p : TrainingProfile) (l : List CutCall) → Taken w → profile_ok p ≡ true → AllWellCut l → InMemory w l → Claim w p l

-- Laws beside it.

-- "the pieces count only for what is refused", "a ride lasts the milliseconds of its pieces that aren't refused": riding the pieces
-- one by one is riding that sum at once, and it is the whole ride where none is refused.
pub record PiecesAtOnce : Type 0 where
  pub at_once : (w : Workout) (p : TrainingProfile) (kinds values : ℕ) (qs : List Piece) (s : Progress)
      → (after_pieces w p kinds values qs s).machine ≡ milliseconds w p (lasts w p kinds values qs s) s.machine
  pub unrefused : (w : Workout) (p : TrainingProfile) (kinds values : ℕ) (qs : List Piece) (s : Progress)
      → AllAccepted (pieces_ask w p kinds values qs s) → lasts w p kinds values qs s ≡ sum_ms qs

-- "the pieces count only for what is refused", of a whole list: two cuttings of one list in which nothing is refused bring the machine
-- to the same state; and where nothing is refused of the list as it stands, every cutting brings it to the same state as that.
pub record CuttingsAgree : Type 0 where
  pub both : (w : Workout) (p : TrainingProfile) (l k : List CutCall) → uncut l ≡ uncut k → AllWellCut l → AllWellCut k → AllAccepted (calls_ask w p l begun)
      → AllAccepted (calls_ask w p k begun) → (after_calls w p l begun).machine ≡ (after_calls w p k begun).machine
  pub as_it_stands : (w : Workout) (p : TrainingProfile) (l : List CutCall) → AllWellCut l → AllAccepted (calls_ask w p (alone (uncut l)) begun)
      → (after_calls w p l begun).machine ≡ (after_calls w p (alone (uncut l)) begun).machine

-- "What is refused as the cut list runs counts for nothing in player": a refused call leaves the player and gives no events.
abbrev pub RefusedStays : Type 0
RefusedStays =
    (p : TrainingProfile) (c : Call) (player : Player) (refusal : Refusal) → (called p c player).answer ≡ Err refusal
    → ((called p c player).player ≡ player) × ((called p c player).events ≡ [])

-- The greatest mean of neighbouring seconds is the same with the newest second first or last.
abbrev pub SecondsEitherWay : Type 0
SecondsEitherWay = (n : ℕ) (seconds : List ℕ) → 0 < n → greatest n (reverse seconds) ≡ greatest n seconds
