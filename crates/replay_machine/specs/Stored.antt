-- Document 01, 'The millisecond machine': "The stored record is what the record writer gives for the player, after the last piece of a
-- cut ride, with whatever journal, id and start."
use Rattle.std.specs.Prelude.{◌≡◌, Bool, true, List, ℕ, ◌≤◌, length, Ok}
use Rattle.le.specs.Le.{written}
use Rattle.zones.specs.declared.TrainingProfile.{TrainingProfile}
use Rattle.zones.specs.Zones.{profile_ok}
use Rattle.model.specs.declared.Workout.{Workout}
use Rattle.state.specs.declared.Player.{Player}
use Rattle.history.specs.declared.Record.{Record}
use Rattle.history.specs.Record.{record_size, record_of}
use Rattle.record_writer.specs.Write.{write_answer, output_of}
use Rattle.machine.specs.Cutting.{CutCall}
use Rattle.machine.specs.Runs.{begun, after_calls}
use Rattle.machine.specs.ThirdDemand.{Taken, InMemory, cut_run, machine_record}

-- What the record writer is handed for a player.
abbrev pub record_for : Player → ℕ → ℕ → ℕ → Bool → Record
record_for player journal id start dated = record_of player.workout.name player.workout.test player.core.summary journal id start dated

-- For every workout, profile and cut list that the third demand takes, and every output with room for a record: the writer accepts
-- the player's record, and what it writes is the machine's.
pub record Stored (w : Workout) (p : TrainingProfile) (l : List CutCall) : Type 0 where
  pub accepted : (journal id start room : ℕ) (dated : Bool) → record_size ≤ room
      → write_answer (record_for (cut_run w p l).player journal id start dated) room ≡ Ok tt
  pub written_is : (journal id start : ℕ) (dated : Bool) (out : List ℕ) → record_size ≤ length out
      → output_of (record_for (cut_run w p l).player journal id start dated) out
      ≡ written out 0 (machine_record w (after_calls w p l begun).machine journal id start dated)

abbrev pub StoredRecord : Type 0
StoredRecord = (w : Workout) (p : TrainingProfile) (l : List CutCall) → Taken w → profile_ok p ≡ true → InMemory w l → Stored w p l
