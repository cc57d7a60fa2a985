-- Document 01's question 20, 'Standing': "Player handed in standing?"
use Rattle.std.specs.Prelude.{Bool, true, false, cond, not, ◌&&◌, List, ℕ, ◌+◌, ◌-◌, ◌*◌, ltb, leb, eqb, get_or, Err, None, Ok, Option, Result, Some, ⊤}
use Rattle.common.specs.Lists.{all_at}
use Rattle.refusal.specs.declared.Refusal.{Refusal}
use Rattle.names.specs.declared.Name.{Name}
use Rattle.model.specs.declared.Length.{Length}
use Rattle.model.specs.declared.Length.TheVariants.{Time, Distance, Open}
use Rattle.model.specs.declared.Target.{Target}
use Rattle.order.specs.declared.Played.{Played}
use Rattle.order.specs.Order.{played_of, played_len, played_in}
use Rattle.validation.specs.Sound.{workout_answer}
use Rattle.steps.specs.Bytes.{intensity_kind, length_kind, length_value, target_kind, first_value, second_value, third_value}
use Rattle.readings.specs.declared.Readings.{Readings}
use Rattle.state.specs.declared.Lap.{Lap}
use Rattle.state.specs.declared.Summary.{Summary}
use Rattle.state.specs.declared.Measured.{Measured}
use Rattle.state.specs.declared.StepNow.{StepNow}
use Rattle.state.specs.declared.Core.{Core}
use Rattle.state.specs.declared.Player.{Player}
use Rattle.state.specs.State.{duration_ms, distance_mm, step_now}

abbrev pub accepted : Result ⊤ Refusal → Bool
accepted (Ok tt) = true
accepted (Err refusal) = false

abbrev pub same : Bool → Bool → Bool
same a b = cond a b (not b)

-- Equal values of an enum have equal numbers in the workout file.

unfoldable pub same_length : Length → Length → Bool
same_length a b = eqb (length_kind a) (length_kind b) && eqb (length_value a) (length_value b)

unfoldable pub same_target : Target → Target → Bool
same_target a b =
    eqb (target_kind a) (target_kind b) && eqb (first_value a) (first_value b) && eqb (second_value a) (second_value b)
    && eqb (third_value a) (third_value b)

unfoldable pub same_step : StepNow → StepNow → Bool
same_step a b =
    same_length a.length b.length && same_target a.target b.target && eqb (intensity_kind a.intensity) (intensity_kind b.intensity)
    && eqb a.index b.index && eqb a.repetition b.repetition && eqb a.of b.of

abbrev pub byte_same : List ℕ → ℕ → ℕ → Bool
byte_same b i x = eqb x (get_or b i 0)

unfoldable pub same_bytes : List ℕ → List ℕ → Bool
same_bytes a b = all_at (byte_same b) 0 a

unfoldable pub same_name : Name → Name → Bool
same_name a b = eqb a.len b.len && same_bytes a.bytes b.bytes

-- "`played` is that position's or, done, the last"
unfoldable pub on_place : Core → ℕ
on_place c = cond c.done (c.position - 1) c.position

abbrev pub step_is : StepNow → Name → Played → Bool
step_is on note played = same_step on (step_now played) && same_name note played.step.note

-- "steps is the played length; `position` = `steps_done`, `skipped` ≤ it ≤ steps; done = finished = all steps done"
abbrev pub counts_ok : ℕ → Core → Bool
counts_ok steps c =
    eqb c.steps steps && eqb c.summary.steps steps && eqb c.summary.steps_done c.position && leb c.summary.skipped c.position
    && leb c.position steps && same c.done (leb steps c.position) && same c.summary.finished c.done

-- "0 when done"
abbrev pub fresh : Lap → Bool
fresh lap = eqb lap.step_ms 0 && eqb lap.step_mm 0 && eqb lap.extra_s 0 && eqb lap.extra_m 0

-- "below the step's end": of time in a timed step, of way in a distance step
abbrev pub below_end : Length → Lap → Bool
below_end (Time secs) lap = ltb lap.step_ms (duration_ms secs lap)
below_end (Distance metres) lap = ltb lap.step_mm (distance_mm metres lap)
below_end Open lap = true

-- "extra within 86,400 s or, in a distance step, 1,000,000 m"
abbrev pub lap_ok : Bool → Length → Lap → Bool
lap_ok done lasts lap =
    cond done (fresh lap) (below_end lasts lap && leb lap.extra_s 86400 && leb lap.extra_m 1000000)

-- "totals .. within limits", "step amounts within totals"
abbrev pub totals_ok : Core → Bool
totals_ok c =
    leb c.total_ms.0 604800000 && leb c.total_mm.0 7000000000 && leb c.lap.step_ms c.total_ms.0
    && leb c.lap.step_mm c.total_mm.0

-- "in + under + over = targeted ≤ total ms"; document 02, g: "a standing player has targeted plus unread within its total ms"
abbrev pub tallies_ok : Summary → ℕ → Bool
tallies_ok s total = leb (s.targeted_ms + s.unread_ms) total && eqb (s.in_ms + s.under_ms + s.over_ms) s.targeted_ms

-- "`test_mj` ≤ 65,535 × `test_ms`; test and low times within totals", "ring places under 60, ring length at most 60, rest under 1,000"
abbrev pub measured_ok : Measured → ℕ → Bool
measured_ok m total =
    leb m.test_ms total && (leb m.test_mj (65535 * m.test_ms) && leb m.ramp_low_ms total && ltb m.minute_rest_ms 1000
    && ltb m.ring.minute_at 60 && leb m.ring.minute_len 60)

-- "Reading: cadence at most 65,530 tenths? 11."
abbrev pub cadence_in : Option ℕ → Bool
cadence_in None = true
cadence_in (Some tenths) = leb tenths 65530

-- "average's place under 3", "cadence within limits"
abbrev pub readings_ok : Readings → Bool
readings_ok r = cadence_in r.last_sample.cadence_tenths && ltb r.power.next 3

-- All but the workout, the step on now and its note, for a number of played steps.
unfoldable pub core_ok : ℕ → Core → Bool
core_ok steps c =
    totals_ok c && (counts_ok steps c && lap_ok c.done c.on.length c.lap && tallies_ok c.summary c.total_ms.0
    && measured_ok c.measured c.total_ms.0 && readings_ok c.readings)

-- "Standing: workout passes 5 to 9; .."
unfoldable pub standing_of : Player → Bool
standing_of p =
    accepted (workout_answer p.workout) && (core_ok (played_len p.workout) p.core
    && step_is p.core.on p.note (played_in (played_of p.workout (on_place p.core))))
