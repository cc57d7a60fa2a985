-- Document 01's player calls: their questions in order, and what each gives.
use Rattle.std.specs.Prelude.{Bool, cond, ◌&&◌, ℕ, ◌+◌, leb, Err, Ok, Result, ⊤}
use Rattle.refusal.specs.declared.Refusal.TheVariants as refusals
use Rattle.refusal.specs.Number.{ask}
use Rattle.refusal.specs.declared.Refusal.{Refusal}
use Rattle.zones.specs.declared.TrainingProfile.{TrainingProfile}
use Rattle.zones.specs.Zones.{profile_ok}
use Rattle.readings.specs.declared.Sample.{Sample}
use Rattle.state.specs.declared.Core.{Core}
use Rattle.state.specs.declared.Player.{Player}
use Rattle.state.specs.State.{event_places, read_core, update_ok}
use Rattle.standing.specs.Standing.{standing_of, cadence_in}
use Rattle.outcomes.specs.declared.Update.{Update}
use Rattle.outcomes.specs.declared.Extended.{Extended}
use Rattle.outcomes.specs.Outcomes.{Called, eventless, eventless_update, with_core, not_extended, extend_by}
use Rattle.updates.specs.Updates.{ride_now, add_now, skip_now}

-- Err, a call leaves the player, with 0 events and 0 parts.
abbrev pub answered : Result ⊤ Refusal → Player → Called → Called
answered (Ok tt) p o = o
answered (Err refusal) p o = eventless (Err refusal) p

-- The questions of an update.

-- "totals with it at most 604,800,000 ms and 7,000,000,000 mm? 13"
abbrev pub totals_with : Core → ℕ → ℕ → Bool
totals_with c ms mm = leb (c.total_ms.0 + ms) 604800000 && leb (c.total_mm.0 + mm) 7000000000

-- "Question 14 now wants at least that many places in each array, and none when done." (document 02, c; it was "193 places or more")
abbrev pub places_ok : Core → ℕ → ℕ → Bool
places_ok c kinds values = leb (event_places c) kinds && leb (event_places c) values

unfoldable pub update_answer : Core → ℕ → ℕ → ℕ → ℕ → Result ⊤ Refusal
update_answer c ms mm kinds values =
    ask (update_ok ms mm) refusals.Update (ask (totals_with c ms mm) refusals.Totals (ask (places_ok c kinds values) refusals.EventPlaces (Ok tt)))

-- Ride.

unfoldable pub ride_answer : Player → ℕ → ℕ → TrainingProfile → ℕ → ℕ → Result ⊤ Refusal
ride_answer p ms mm f kinds values =
    ask (standing_of p) refusals.Standing (ask (profile_ok f) refusals.Profile (update_answer p.core ms mm kinds values))

-- "ride, which is the loop of `add` without its `read`, under the last reading"
unfoldable pub ride_of : Player → ℕ → ℕ → TrainingProfile → ℕ → ℕ → Called
ride_of p ms mm f kinds values = answered (ride_answer p ms mm f kinds values) p (ride_now p ms mm f)

-- Read.

unfoldable pub read_answer : Player → Sample → Result ⊤ Refusal
read_answer p sample = ask (standing_of p) refusals.Standing (ask (cadence_in sample.cadence_tenths) refusals.Cadence (Ok tt))

abbrev pub read_by : Result ⊤ Refusal → Player → Sample → Update
read_by (Ok tt) p sample = eventless_update (Ok tt) (with_core (read_core sample p.core) p)
read_by (Err refusal) p sample = eventless_update (Err refusal) p

unfoldable pub read_of : Player → Sample → Update
read_of p sample = read_by (read_answer p sample) p sample

-- Add: read, then ride, with the questions of both first.

unfoldable pub add_answer : Player → ℕ → ℕ → Sample → TrainingProfile → ℕ → ℕ → Result ⊤ Refusal
add_answer p ms mm sample f kinds values =
    ask (standing_of p) refusals.Standing (ask (profile_ok f) refusals.Profile (ask (cadence_in sample.cadence_tenths) refusals.Cadence (update_answer p.core ms mm kinds values)))

unfoldable pub add_of : Player → ℕ → ℕ → Sample → TrainingProfile → ℕ → ℕ → Called
add_of p ms mm sample f kinds values = answered (add_answer p ms mm sample f kinds values) p (add_now p ms mm sample f)

-- Skip.

unfoldable pub skip_answer : Player → ℕ → ℕ → Result ⊤ Refusal
skip_answer p kinds values = ask (standing_of p) refusals.Standing (ask (places_ok p.core kinds values) refusals.EventPlaces (Ok tt))

unfoldable pub skip_of : Player → ℕ → ℕ → Called
skip_of p kinds values = answered (skip_answer p kinds values) p (skip_now p)

-- Extend.

-- "Open or finished gives `false`", whatever the amount.
abbrev pub extend_now : ℕ → ℕ → Bool → Player → Extended
extend_now secs metres done p = cond done (not_extended (Ok tt) p) (extend_by secs metres p.core.on.length p)

-- "a call with the amount" (document 02, i): 20, then 15 of the step's own unit
unfoldable pub extend_with : ℕ → ℕ → Player → Extended
extend_with secs metres p = cond (standing_of p) (extend_now secs metres p.core.done p) (not_extended (Err refusals.Standing) p)

-- "The plain extend call now gives 30 s or 250 m." (document 02, i; it was 60 s or 500 m)
abbrev pub default_s : ℕ
default_s = 30

abbrev pub default_m : ℕ
default_m = 250

abbrev pub extend_of : Player → Extended
extend_of p = extend_with default_s default_m p
