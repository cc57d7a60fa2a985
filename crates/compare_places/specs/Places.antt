-- A list of calls with event arrays of 193 places or of exactly as many as `event_places` tells, what each of them gives by the
-- definitions of crate `player`, and the words of the last one; tests/oracle/places.rs has the layout.
use Rattle.std.specs.Prelude.{Bool, not, cond, List, [], ◌∷◌, ℕ, zero, suc, ◌-◌, ◌%◌, min, eqb, length, get_or}
use Rattle.refusal.specs.Number.{answer_number}
use Rattle.compare_cut.specs.Cuts.{ride_called}
use Rattle.compare_player.specs.Calls.{call_at, sample_of, given_by, looked_at, begun}
use Rattle.compare_player.specs.declared.Call.{Call}
use Rattle.compare_player.specs.declared.Seen.{Seen}
use Rattle.compare_player.specs.declared.Turn.{Turn}
use Rattle.compare_reports.specs.Words.{seen_word}
use Rattle.outcomes.specs.Outcomes.{Called, eventless, eventless_update}
use Rattle.outcomes.specs.declared.Extended.{Extended}
use Rattle.outcomes.specs.declared.Update.{Update}
use Rattle.player.specs.Calls.{add_of, skip_of, read_of, extend_with, extend_of}
use Rattle.reports.specs.Reports.{places_of}
use Rattle.reports.specs.declared.PlacesRead.{PlacesRead}
use Rattle.state.specs.declared.Player.{Player}

-- 0 no, any other number yes
abbrev pub is_yes : ℕ → Bool
is_yes n = not (eqb n 0)

-- Each call with events, its arrays having so many places; a ride is compare_cut's.
abbrev pub add_called : Player → Call → ℕ → ℕ → Called
add_called p call kinds values = add_of p call.ms call.mm (sample_of call) call.profile kinds values

-- The others give no events.
abbrev pub read_update : Player → Call → Update
read_update p call = eventless_update (read_of p (sample_of call)).answer (read_of p (sample_of call)).player

abbrev pub extended_update : Extended → Update
extended_update e = eventless_update e.answer e.player

abbrev pub without_events : Update → Called
without_events u = eventless u.answer u.player

-- by the call's kind: 1 ride, 2 add, 3 skip, 4 extend by `power` seconds or `heart` metres, 5 extend, else read
abbrev pub called_by : ℕ → Player → Call → ℕ → ℕ → Called
called_by kind p call kinds values =
    cond (eqb kind 1) (ride_called p call kinds values)
    (cond (eqb kind 2) (add_called p call kinds values)
    (cond (eqb kind 3) (skip_of p kinds values)
    (cond (eqb kind 4) (without_events (extended_update (extend_with call.power call.heart p)))
    (cond (eqb kind 5) (without_events (extended_update (extend_of p))) (without_events (read_update p call))))))

unfoldable pub called_of : Player → Call → ℕ → ℕ → Called
called_of p call kinds values = called_by call.kind p call kinds values

-- of the 193 places that each call before the last has, it is lent as many as are told, or all
unfoldable pub lent_to : Player → Bool → ℕ
lent_to p exact = cond exact (min (places_of p).places 193) 193

abbrev pub played_lent : Player → Call → Bool → Player
played_lent p call exact = (called_of p call (lent_to p exact) (lent_to p exact)).player

-- after so many calls of the list
unfoldable pub player_after : List ℕ → List ℕ → Bool → ℕ → Player
player_after file calls exact zero = (begun file calls).player
player_after file calls exact (suc k) = played_lent (player_after file calls exact k) (call_at calls k) exact

-- call k, its arrays having so many places
abbrev pub last_called : List ℕ → List ℕ → ℕ → Bool → ℕ → ℕ → Called
last_called file calls k exact kinds values = called_of (player_after file calls exact k) (call_at calls k) kinds values

-- what it gave, with the check word of no events, since its events stand in the caller's arrays
abbrev pub last_turn : Called → Turn
last_turn o = record { player = o.player; given = given_by (answer_number o.answer) (length o.events) o.parts 7 }

abbrev pub last_seen : List ℕ → List ℕ → ℕ → Bool → ℕ → ℕ → Seen
last_seen file calls k exact kinds values = looked_at (last_turn (last_called file calls k exact kinds values)) (call_at calls k)

-- what was told before it, and the words after it
abbrev pub told_facts : PlacesRead → List ℕ
told_facts told = answer_number told.answer ∷ told.places % 4294967296 ∷ []

unfoldable pub place_word : PlacesRead → Seen → ℕ → ℕ
place_word told seen place = get_or (told_facts told) place (seen_word seen.given seen.reported (place - 2))

unfoldable pub word_after : List ℕ → List ℕ → ℕ → Bool → ℕ → ℕ → ℕ → ℕ
word_after file calls k exact kinds values = place_word (places_of (player_after file calls exact k)) (last_seen file calls k exact kinds values)
