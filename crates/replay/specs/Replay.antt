-- Document 01: "Replay, with event arrays of its own, asks the workout first, then the sheet, then 19, then each act; 17 and all
-- refusals of acts name the first act at fault."
use Rattle.std.specs.Prelude.{◌≡◌, Bool, List, ℕ, ◌-◌, leb, length, Ok}
use Rattle.refusal.specs.declared.Refusal.TheVariants as refusals
use Rattle.refusal.specs.Number.{ask}
use Rattle.zones.specs.declared.TrainingProfile.{TrainingProfile}
use Rattle.zones.specs.Zones.{profile_answer}
use Rattle.validation.specs.Sound.{workout_answer}
use Rattle.decode.specs.Decode.{decode_of}
use Rattle.state.specs.declared.Player.{Player}
use Rattle.start.specs.Start.{fresh, new_of}
use Rattle.history.specs.declared.Record.{Record}
use Rattle.history.specs.Record.{record_size, record_of}
use Rattle.record_writer.specs.Write.{output_by}
use Rattle.sheet.specs.declared.ActAnswer.{ActAnswer}
use Rattle.sheet.specs.Sheet.{count_in, place_of, profile_at, acts_from, check_of}
use Rattle.replay.specs.declared.Ridden.{Ridden}
use Rattle.replay.specs.Acts.{unless_refused, at_no_act, at_act, play_acts}

-- "profile .. the first act"
abbrev pub profile_in : List ℕ → TrainingProfile
profile_in s = profile_at s (place_of (count_in s) 0)

-- The acts from a fresh player on. "FTP 50 to 600 and LTHR 1 to 255? 10", asked of act 0.
unfoldable pub play_sheet : Player → List ℕ → Ridden
play_sheet player s =
    unless_refused (at_act 0 (profile_answer (profile_in s)))
    (play_acts player.workout (profile_in s) (acts_from s (count_in s) 1 (count_in s - 1)) 1 player)

-- What `play_sheet` supposes: a fresh player of a workout that passes 5 to 9.
pub record Fresh (player : Player) : Type 0 where
  pub passes : workout_answer player.workout ≡ Ok tt
  pub new : player ≡ fresh player.workout

-- "asks the workout first" (1 to 9, and `new` 5 to 9 again of what passed them), "then the sheet, then 19, then each act"
unfoldable pub ridden_of : List ℕ → List ℕ → ℕ → Ridden
ridden_of file s room =
    unless_refused (at_no_act (decode_of file).answer)
    (unless_refused (at_no_act (new_of (decode_of file).workout).answer)
    (unless_refused (check_of s)
    (unless_refused (at_no_act (ask (leb record_size room) refusals.Output (Ok tt))) (play_sheet (new_of (decode_of file).workout).player s))))

-- The record, "with journal, id, start time and a yes or no for whether it is dated".
abbrev pub replay_record : Ridden → ℕ → ℕ → ℕ → Bool → Record
replay_record r journal id start dated = record_of r.name r.test r.summary journal id start dated

-- "gets the record, or the refusal's number and, where it names one, its act"
unfoldable pub replay_answer : List ℕ → List ℕ → ℕ → ActAnswer
replay_answer file s room = (ridden_of file s room).outcome

-- "Output bytes past those written stay", and refused, all stay.
unfoldable pub replay_output : List ℕ → List ℕ → ℕ → ℕ → ℕ → Bool → List ℕ → List ℕ
replay_output file s journal id start dated out =
    output_by (ridden_of file s (length out)).outcome.answer (replay_record (ridden_of file s (length out)) journal id start dated) out
