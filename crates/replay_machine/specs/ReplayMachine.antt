-- Document 01, 'The millisecond machine': "For such a workout the replay's record too is this machine's after its acts."
use Rattle.std.specs.Prelude.{◌≡◌, Bool, true, List, ℕ, ◌-◌, length, Ok}
use Rattle.common.specs.Lists.{all}
use Rattle.le.specs.Le.{Bytes, written}
use Rattle.model.specs.declared.Workout.{Workout}
use Rattle.model.specs.Workout.{steps_of}
use Rattle.decode.specs.Decode.{decode_of}
use Rattle.machine.specs.Machine.{Machine}
use Rattle.machine.specs.Cutting.{Call, alone}
use Rattle.machine.specs.Runs.{begun, after_calls}
use Rattle.machine.specs.ThirdDemand.{is_plain, machine_record}
use Rattle.sheet.specs.Sheet.{count_in, acts_from}
use Rattle.replay.specs.Acts.{calls_of}
use Rattle.replay.specs.Replay.{profile_in, replay_answer, replay_output}

-- The calls of a sheet: its acts after the profile.
unfoldable pub sheet_calls : List ℕ → List Call
sheet_calls s = calls_of (acts_from s (count_in s) 1 (count_in s - 1))

-- "this machine's after its acts", each ride being its own one piece
unfoldable pub machine_after : Workout → List ℕ → Machine
machine_after w s = (after_calls w (profile_in s) (alone (sheet_calls s)) begun).machine

-- For every file and sheet, of bytes, "such a workout" being one "without distance steps and ramp targets": where the replay isn't
-- refused (crate bench_ride has one), what it writes is the record of the machine, with whatever journal, id, start and output.
abbrev pub ReplayMachine : Type 0
ReplayMachine =
    (file s : List ℕ) → Bytes file → Bytes s → all is_plain (steps_of (decode_of file).workout) ≡ true → (journal id start : ℕ) (dated : Bool) (out : List ℕ)
    → (replay_answer file s (length out)).answer ≡ Ok tt
    → replay_output file s journal id start dated out ≡ written out 0 (machine_record (decode_of file).workout (machine_after (decode_of file).workout s) journal id start dated)
