-- Document 01, 'The millisecond machine': a list of calls run by the player, and the same list, with the pieces of its rides, run by
-- the machine.
use Rattle.std.specs.Prelude.{Bool, true, cond, ◌&&◌, List, [], ◌∷◌, ◌++◌, ℕ, ◌+◌, ◌-◌, ◌*◌, leb, eqb, Err, None, Ok, Result, Some, ⊤, Option}
use Rattle.refusal.specs.declared.Refusal.TheVariants as refusals
use Rattle.refusal.specs.Number.{ask}
use Rattle.refusal.specs.declared.Refusal.{Refusal}
use Rattle.zones.specs.declared.TrainingProfile.{TrainingProfile}
use Rattle.model.specs.declared.Workout.{Workout}
use Rattle.order.specs.Order.{played_len}
use Rattle.readings.specs.declared.Sample.{Sample}
use Rattle.events.specs.Events.{Event}
use Rattle.state.specs.declared.Player.{Player}
use Rattle.outcomes.specs.declared.Update.{Update}
use Rattle.outcomes.specs.declared.Extended.{Extended}
use Rattle.outcomes.specs.Outcomes.{Called}
use Rattle.player.specs.Calls.{read_of, ride_of, skip_of, extend_with}
use Rattle.machine.specs.Machine.{Machine, start, step_at, is_finished, reading, extra_after, with_extra, skipped, milliseconds}
use Rattle.machine.specs.Cutting.{Call, read, ride, skip, extend, Piece, CutCall}

-- The player.

-- Read and extend are lent no arrays and give no events.
abbrev pub of_read : Update → Called
of_read r = record { answer = r.answer; player = r.player; events = []; parts = r.parts }

abbrev pub of_extend : Extended → Called
of_extend r = record { answer = r.answer; player = r.player; events = []; parts = 0 }

-- What a call gives: the definitions that `read`, `ride`, `skip` and `extend_with` are proved equal to; `extend` is the last one by its
-- default.
unfoldable pub called : TrainingProfile → Call → Player → Called
called p (read sample) player = of_read (read_of player sample)
called p (ride ms mm kinds values) player = ride_of player ms mm p kinds values
called p (skip kinds values) player = skip_of player kinds values
called p (extend secs metres) player = of_extend (extend_with secs metres player)

-- The player after a list of calls, their events joined, and the answer of each.
pub record Run : Type 0 where
  pub player : Player
  pub events : List Event
  pub answers : List (Result ⊤ Refusal)

-- "Each call gets the player that the last one returned."
unfoldable pub run : TrainingProfile → List Call → Player → Run
run p [] player = record { player = player; events = []; answers = [] }
run p (c ∷ cs) player =
    record {
      player = (run p cs (called p c player).player).player;
      events = (called p c player).events ++ (run p cs (called p c player).player).events;
      answers = (called p c player).answer ∷ (run p cs (called p c player).player).answers;
    }

-- The machine.

-- "the sums of ms and mm over the cut list's rides of 1 ms or more not refused before"
pub record Totals : Type 0 where
  pub ms : ℕ
  pub mm : ℕ

pub record Progress : Type 0 where
  pub machine : Machine
  pub totals : Totals

unfoldable pub begun : Progress
begun = record { machine = start; totals = record { ms = 0; mm = 0 } }

-- "The questions are asked of the arguments, of the machine's state and, for 13, of the sums". The profile passes 10, and of 20
-- nothing is asked: the machine has no player handed in.

-- "Reading: cadence at most 65,530 tenths? 11."
abbrev pub cadence_ok : Option ℕ → Bool
cadence_ok None = true
cadence_ok (Some tenths) = leb tenths 65530

abbrev pub read_asks : Sample → Result ⊤ Refusal
read_asks sample = ask (cadence_ok sample.cadence_tenths) refusals.Cadence (Ok tt)

-- "ms at most 86,400,000 and mm at most 1,000,000,000? 12"
abbrev pub piece_ok : Piece → Bool
piece_ok q = leb q.ms 86400000 && leb q.mm 1000000000

-- "totals with it at most 604,800,000 ms and 7,000,000,000 mm? 13"
abbrev pub totals_ok : Totals → Piece → Bool
totals_ok t q = leb (t.ms + q.ms) 604800000 && leb (t.mm + q.mm) 7000000000

-- Document 02, c: "twice the unended steps plus one", "and none when done".
abbrev pub places_wanted : Workout → Machine → ℕ
places_wanted w m = cond (is_finished w m) 0 (2 * (played_len w - m.step.position) + 1)

-- "Question 14 now wants at least that many places in each array": of the machine's state at each piece of a ride, and at a skip
abbrev pub places_ok : Workout → Machine → ℕ → ℕ → Bool
places_ok w m kinds values = leb (places_wanted w m) kinds && leb (places_wanted w m) values

unfoldable pub piece_asks : Workout → ℕ → ℕ → Progress → Piece → Result ⊤ Refusal
piece_asks w kinds values s q =
    ask (piece_ok q) refusals.Update
    (ask (totals_ok s.totals q) refusals.Totals (ask (places_ok w s.machine kinds values) refusals.EventPlaces (Ok tt)))

abbrev pub skip_asks : Workout → ℕ → ℕ → Progress → Result ⊤ Refusal
skip_asks w kinds values s = ask (places_ok w s.machine kinds values) refusals.EventPlaces (Ok tt)

-- "its extra at most 86,400 s .. after it? 15. Open or finished gives `false`, no refusal."
abbrev pub extra_asks : Option ℕ → Result ⊤ Refusal
extra_asks None = Ok tt
extra_asks (Some extra) = ask (leb extra 86400) refusals.Extra (Ok tt)

-- "The millisecond machine's extend adds the seconds of the call." (document 02, i; it was "60 s more")
abbrev pub extra_next : Workout → ℕ → Progress → Option ℕ
extra_next w secs s = extra_after (step_at w s.machine.step.position) secs s.machine.step.extra

abbrev pub extend_asks : Workout → ℕ → Progress → Result ⊤ Refusal
extend_asks w secs s = extra_asks (extra_next w secs s)

-- "What a question refuses as the cut list runs does nothing: a read, skip or extend is left out"
unfoldable pub unless_refused : Result ⊤ Refusal → Progress → Machine → Progress
unless_refused (Ok tt) s m = record { machine = m; totals = s.totals }
unless_refused (Err refusal) s m = s

-- "rides of 1 ms or more"
unfoldable pub with_piece : Piece → Totals → Totals
with_piece q t = cond (eqb q.ms 0) t (record { ms = t.ms + q.ms; mm = t.mm + q.mm })

-- "a ride lasts the milliseconds of its pieces that aren't refused": piece by piece. `pieces_at_once` says that this is
-- riding their sum at once.
unfoldable pub after_piece : Workout → TrainingProfile → Result ⊤ Refusal → Piece → Progress → Progress
after_piece w p (Ok tt) q s = record { machine = milliseconds w p q.ms s.machine; totals = with_piece q s.totals }
after_piece w p (Err refusal) q s = s

unfoldable pub after_pieces : Workout → TrainingProfile → ℕ → ℕ → List Piece → Progress → Progress
after_pieces w p kinds values [] s = s
after_pieces w p kinds values (q ∷ qs) s = after_pieces w p kinds values qs (after_piece w p (piece_asks w kinds values s q) q s)

unfoldable pub after_call : Workout → TrainingProfile → Call → List Piece → Progress → Progress
after_call w p (read sample) qs s = unless_refused (read_asks sample) s (reading sample s.machine)
after_call w p (ride ms mm kinds values) qs s = after_pieces w p kinds values qs s
after_call w p (skip kinds values) qs s = unless_refused (skip_asks w kinds values s) s (skipped w (step_at w s.machine.step.position) s.machine)
after_call w p (extend secs metres) qs s = unless_refused (extend_asks w secs s) s (with_extra (extra_next w secs s) s.machine)

unfoldable pub after_calls : Workout → TrainingProfile → List CutCall → Progress → Progress
after_calls w p [] s = s
after_calls w p (c ∷ l) s = after_calls w p l (after_call w p c.call c.pieces s)

-- The machine's own answers, one for each call of the cut list.

unfoldable pub pieces_ask : Workout → TrainingProfile → ℕ → ℕ → List Piece → Progress → List (Result ⊤ Refusal)
pieces_ask w p kinds values [] s = []
pieces_ask w p kinds values (q ∷ qs) s =
    piece_asks w kinds values s q ∷ pieces_ask w p kinds values qs (after_piece w p (piece_asks w kinds values s q) q s)

unfoldable pub call_asks : Workout → TrainingProfile → Call → List Piece → Progress → List (Result ⊤ Refusal)
call_asks w p (read sample) qs s = read_asks sample ∷ []
call_asks w p (ride ms mm kinds values) qs s = pieces_ask w p kinds values qs s
call_asks w p (skip kinds values) qs s = skip_asks w kinds values s ∷ []
call_asks w p (extend secs metres) qs s = extend_asks w secs s ∷ []

unfoldable pub calls_ask : Workout → TrainingProfile → List CutCall → Progress → List (Result ⊤ Refusal)
calls_ask w p [] s = []
calls_ask w p (c ∷ l) s = call_asks w p c.call c.pieces s ++ calls_ask w p l (after_call w p c.call c.pieces s)

-- "a ride lasts the milliseconds of its pieces that aren't refused": their sum.

abbrev pub lasts_by : Result ⊤ Refusal → ℕ → ℕ
lasts_by (Ok tt) ms = ms
lasts_by (Err refusal) ms = 0

unfoldable pub lasts : Workout → TrainingProfile → ℕ → ℕ → List Piece → Progress → ℕ
lasts w p kinds values [] s = 0
lasts w p kinds values (q ∷ qs) s =
    lasts_by (piece_asks w kinds values s q) q.ms + lasts w p kinds values qs (after_piece w p (piece_asks w kinds values s q) q s)
