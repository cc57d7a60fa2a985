-- A list of calls with event arrays of the lengths that the calls name, what each of them gives by the definitions of crate `player`,
-- and the words after each; tests/oracle/cut.rs has the layout.
use Rattle.std.specs.Prelude.{◌≡◌, cond, List, [], ◌∷◌, ℕ, zero, suc, ◌+◌, ◌/◌, ◌%◌, min, eqb, length, get_or, take, replicate}
use Rattle.le.specs.Le.{written}
use Rattle.refusal.specs.Number.{answer_number}
use Rattle.compare_player.specs.Calls.{mixed, call_at, given_by, read_turn, extend_with_turn, extend_turn, looked_at, begun}
use Rattle.compare_player.specs.declared.Call.{Call}
use Rattle.compare_player.specs.declared.Seen.{Seen}
use Rattle.compare_player.specs.declared.Turn.{Turn}
use Rattle.compare_reports.specs.Words.{seen_word}
use Rattle.events.specs.Events.{kinds_of, values_of}
use Rattle.player.specs.Calls.{ride_of, skip_of}
use Rattle.state.specs.declared.Player.{Player}
use Rattle.outcomes.specs.Outcomes.{Called}

-- A check word of what stands in n places of the two arrays from place i on, countdowns (kind 0) passed over.
abbrev pub joined_one : ℕ → ℕ → ℕ → ℕ
joined_one check kind value = cond (eqb kind 0) check (mixed check kind value)

unfoldable pub joined_from : List ℕ → List ℕ → ℕ → ℕ → ℕ → ℕ
joined_from ks vs i zero check = check
joined_from ks vs i (suc n) check = joined_from ks vs (i + 1) n (joined_one check (get_or ks i 0) (get_or vs i 0))

-- What a call with events gives, its arrays being ks and vs, and its events joined to those before.
abbrev pub joined_of : Called → List ℕ → List ℕ → ℕ → ℕ
joined_of o ks vs check =
    joined_from (written ks 0 (kinds_of o.events)) (written vs 0 (values_of o.events)) 0
    (min (length o.events) (min (length ks) (length vs)))
    (check % 1000000007)

abbrev pub called_cut : Called → List ℕ → List ℕ → ℕ → Turn
called_cut o ks vs check =
    record { player = o.player; given = given_by (answer_number o.answer) (length o.events) o.parts (joined_of o ks vs check) }

-- the same, with the arrays after it
pub record LentTurn (ks vs ks' vs' : List ℕ) (check : ℕ) (r : Turn) (o : Called) : Type 0 where
  pub turn : r ≡ called_cut o ks vs check
  pub kinds : ks' ≡ written ks 0 (kinds_of o.events)
  pub values : vs' ≡ written vs 0 (values_of o.events)

abbrev pub ride_called : Player → Call → ℕ → ℕ → Called
ride_called p call kinds values = ride_of p call.ms call.mm call.profile kinds values

-- of 200 places as many as a word of the call names
abbrev pub places : List ℕ
places = replicate 200 0

abbrev pub places_of : ℕ → List ℕ
places_of word = take (min word 200) places

abbrev pub ride_in : Player → Call → List ℕ → List ℕ → ℕ → Turn
ride_in p call ks vs check = called_cut (ride_called p call (length ks) (length vs)) ks vs check

abbrev pub skip_in : Player → List ℕ → List ℕ → ℕ → Turn
skip_in p ks vs check = called_cut (skip_of p (length ks) (length vs)) ks vs check

abbrev pub ride_cut : Player → Call → ℕ → Turn
ride_cut p call check = ride_in p call (places_of call.power) (places_of call.heart) check

abbrev pub skip_cut : Player → Call → ℕ → Turn
skip_cut p call check = skip_in p (places_of call.power) (places_of call.heart) check

-- a call without events leaves the check word
abbrev pub with_check : Turn → ℕ → Turn
with_check turn check =
    record {
      player = turn.player;
      given =
          record {
            number = turn.given.number;
            events = turn.given.events;
            parts = turn.given.parts;
            check = check;
            extended = turn.given.extended;
          };
    }

-- by the call's kind: 1 ride, 3 skip, 4 extend by an amount, 5 extend, else read
abbrev pub played_by : ℕ → Player → Call → ℕ → Turn
played_by kind p call check =
    cond (eqb kind 1) (ride_cut p call check)
    (cond (eqb kind 3) (skip_cut p call check)
    (cond (eqb kind 4) (with_check (extend_with_turn p call) check) (cond (eqb kind 5) (with_check (extend_turn p) check) (with_check (read_turn p call) check))))

unfoldable pub played_cut : Player → Call → ℕ → Turn
played_cut p call check = played_by call.kind p call check

unfoldable pub turned_cut : List ℕ → Seen → ℕ → Seen
turned_cut calls seen k = looked_at (played_cut seen.player (call_at calls k) seen.given.check) (call_at calls k)

-- after so many calls of the list; the check word of no events is 7
unfoldable pub cut_after : List ℕ → List ℕ → ℕ → Seen
cut_after file calls zero = begun file calls
cut_after file calls (suc k) = turned_cut calls (cut_after file calls k) k

-- the next call is played after the last of 13 words
unfoldable pub next_cut : List ℕ → Seen → ℕ → Seen
next_cut calls seen i = cond (eqb (i % 13) 12) (turned_cut calls seen (i / 13)) seen

-- the call's refusal, the check word so far, and the summary from its targeted time on, with `in_target_pct` and unread
unfoldable pub cut_word : Seen → ℕ → ℕ
cut_word seen place = get_or (seen.given.number ∷ seen.given.check ∷ []) place (seen_word seen.given seen.reported (place + 4))

-- the words of the fresh player, then those after each call
unfoldable pub word_after : List ℕ → List ℕ → ℕ → ℕ
word_after file calls i = cut_word (cut_after file calls (i / 13)) (i % 13)
