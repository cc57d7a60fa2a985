-- A list of calls, what each of them gives by the definitions of crates `player` and `start`, and the words after each;
-- tests/oracle/played.rs has the layout.
use Rattle.std.specs.Prelude.{false, cond, List, [], ◌∷◌, ℕ, zero, suc, ◌+◌, ◌-◌, ◌*◌, ◌/◌, ◌%◌, min, eqb, ltb, leb, length, get_or, replicate, None, Option, Some}
use Rattle.compare.specs.Input.{word_at, low16}
use Rattle.compare_fields.specs.Fields.{set_field}
use Rattle.compare_files.specs.Files.{question_word}
use Rattle.compare_reports.specs.Words.{reported_of, seen_word}
use Rattle.compare_reports.specs.declared.Given.{Given}
use Rattle.decode.specs.Decode.{decode_of}
use Rattle.events.specs.Events.{Event, kinds_of, values_of}
use Rattle.le.specs.Le.{part, written}
use Rattle.player.specs.Calls.{read_of, ride_of, add_of, skip_of, extend_with, extend_of}
use Rattle.readings.specs.declared.Sample.{Sample}
use Rattle.refusal.specs.Number.{answer_number}
use Rattle.start.specs.Start.{new_of}
use Rattle.start.specs.declared.NewPlayer.{NewPlayer}
use Rattle.state.specs.declared.Player.{Player}
use Rattle.outcomes.specs.Outcomes.{Called}
use Rattle.outcomes.specs.declared.Extended.{Extended}
use Rattle.outcomes.specs.declared.Update.{Update}
use Rattle.compare_player.specs.declared.Call.{Call}
use Rattle.compare_player.specs.declared.Seen.{Seen}
use Rattle.compare_player.specs.declared.Turn.{Turn}

-- A check word of what stands in n places of the two arrays from place i on.
abbrev pub mixed : ℕ → ℕ → ℕ → ℕ
mixed check kind value = (check * 31 + kind * 65536 + value + 1) % 1000000007

unfoldable pub check_from : List ℕ → List ℕ → ℕ → ℕ → ℕ → ℕ
check_from ks vs i zero check = check
check_from ks vs i (suc n) check = check_from ks vs (i + 1) n (mixed check (get_or ks i 0) (get_or vs i 0))

-- the check word of events, which stand in two arrays of 193 places
abbrev pub places : List ℕ
places = replicate 193 0

abbrev pub check_of : List Event → ℕ
check_of es = check_from (written places 0 (kinds_of es)) (written places 0 (values_of es)) 0 (min (length es) 193) 7

-- A call is eight words: kind, FTP, LTHR, ms, mm, power, heart, cadence.
unfoldable pub call_at : List ℕ → ℕ → Call
call_at calls k =
    record {
      kind = word_at calls (8 * k);
      ms = word_at calls (8 * k + 3);
      mm = word_at calls (8 * k + 4);
      power = word_at calls (8 * k + 5);
      heart = word_at calls (8 * k + 6);
      cadence = word_at calls (8 * k + 7);
      profile = record { ftp_watts = low16 (word_at calls (8 * k + 1)); lthr_bpm = low16 (word_at calls (8 * k + 2)) };
    }

-- 0 is an absent reading, any other word one more than the reading
abbrev pub reading_from : ℕ → Option ℕ
reading_from word = cond (eqb word 0) None (Some (low16 (word - 1)))

abbrev pub sample_of : Call → Sample
sample_of call =
    record {
      power_watts = reading_from call.power;
      heart_bpm = reading_from call.heart;
      cadence_tenths = reading_from call.cadence;
    }

-- What a call gave, in 32-bit words.
abbrev pub given_by : ℕ → ℕ → ℕ → ℕ → Given
given_by number events parts check =
    record { number = number; events = events % 4294967296; parts = parts % 4294967296; check = check; extended = false }

abbrev pub turn_of : Update → ℕ → Turn
turn_of update check =
    record { player = update.player; given = given_by (answer_number update.answer) update.events update.parts check }

abbrev pub called_turn : Called → Turn
called_turn o =
    record { player = o.player; given = given_by (answer_number o.answer) (length o.events) o.parts (check_of o.events) }

-- without events or parts
abbrev pub no_events : ℕ → Given
no_events number = record { number = number; events = 0; parts = 0; check = 7; extended = false }

-- Each call, both arrays of 193 places.
abbrev pub read_turn : Player → Call → Turn
read_turn p call = turn_of (read_of p (sample_of call)) 7

abbrev pub ride_turn : Player → Call → Turn
ride_turn p call = called_turn (ride_of p call.ms call.mm call.profile 193 193)

abbrev pub add_turn : Player → Call → Turn
add_turn p call = called_turn (add_of p call.ms call.mm (sample_of call) call.profile 193 193)

abbrev pub skip_turn : Player → Turn
skip_turn p = called_turn (skip_of p 193 193)

abbrev pub extended_turn : Extended → Turn
extended_turn e =
    record {
      player = e.player;
      given = record { number = answer_number e.answer; events = 0; parts = 0; check = 7; extended = e.extended };
    }

-- by as many seconds as `power` says, or as many metres as `heart`
abbrev pub extend_with_turn : Player → Call → Turn
extend_with_turn p call = extended_turn (extend_with call.power call.heart p)

abbrev pub extend_turn : Player → Turn
extend_turn p = extended_turn (extend_of p)

-- no call of the player's, for players that no list of calls reaches: field `ms` set to `mm` and, above its 32 bits, `power`
abbrev pub set_turn : Player → Call → Turn
set_turn p call = record { player = set_field p call.ms (call.mm + 4294967296 * call.power); given = no_events 0 }

-- by the call's kind
abbrev pub turns : Player → Call → List Turn
turns p call = read_turn p call ∷ ride_turn p call ∷ add_turn p call ∷ skip_turn p ∷ extend_with_turn p call ∷ extend_turn p ∷ []

unfoldable pub played : Player → Call → Turn
played p call = get_or (turns p call) call.kind (set_turn p call)

-- The reports after a call; `until_end` of the call's ms and mm.
abbrev pub looked_at : Turn → Call → Seen
looked_at turn call =
    record { player = turn.player; given = turn.given; reported = reported_of turn.player call.ms call.mm call.profile }

abbrev pub new_turn : NewPlayer → Turn
new_turn made = record { player = made.player; given = no_events (answer_number made.answer) }

unfoldable pub begun : List ℕ → List ℕ → Seen
begun file calls = looked_at (new_turn (new_of (decode_of file).workout)) (call_at calls 0)

unfoldable pub turned : List ℕ → Seen → ℕ → Seen
turned calls seen k = looked_at (played seen.player (call_at calls k)) (call_at calls k)

-- after so many calls of the list
unfoldable pub seen_after : List ℕ → List ℕ → ℕ → Seen
seen_after file calls zero = begun file calls
seen_after file calls (suc k) = turned calls (seen_after file calls k) k

-- the next call is played after the last of 80 words
unfoldable pub next_seen : List ℕ → Seen → ℕ → Seen
next_seen calls seen i = cond (eqb (i % 80) 79) (turned calls seen (i / 80)) seen

-- the words of the fresh player, then those after each call
unfoldable pub word_after : List ℕ → List ℕ → ℕ → ℕ
word_after file calls i = seen_word (seen_after file calls (i / 80)).given (seen_after file calls (i / 80)).reported (i % 80)

-- One word of an answer, from an input of the number of the file's bytes, the file and the calls; 0 where the file isn't whole.
abbrev pub between : List ℕ → ℕ → ℕ → List ℕ
between list from to = part list from (to - from)

abbrev pub word_of : List ℕ → ℕ → ℕ → ℕ
word_of input end place = word_after (between input 4 end) (between input end (length input)) place

abbrev pub player_from : List ℕ → ℕ → ℕ → ℕ
player_from input size place = cond (ltb (length input - 4) size) 0 (cond (leb 1000000 place) 0 (word_of input (4 + size) place))

unfoldable pub player_word : List ℕ → ℕ → ℕ
player_word input place = cond (ltb (length input) 4) 0 (player_from input (word_at input 0) place)

-- question 13 is that on the player; the others are asked in crate `compare_files`
unfoldable pub any_word : ℕ → List ℕ → ℕ → ℕ
any_word question input place = cond (eqb question 13) (player_word input place) (question_word question input place)
