-- A player with one field set, by the numbers of tests/oracle/fields.rs. In each group a number past the last is the last; values
-- are cut to the field's width.
use Rattle.std.specs.Prelude.{not, cond, List, [], ◌∷◌, ℕ, ◌/◌, ◌%◌, eqb, ltb, get_or, set, Some}
use Rattle.model.specs.declared.Intensity.TheVariants.{Warmup}
use Rattle.model.specs.declared.Length.TheVariants.{Time, Distance, Open}
use Rattle.model.specs.declared.Target.TheVariants.{HeartZone}
use Rattle.model.specs.declared.Workout.{Workout}
use Rattle.power.specs.declared.Power3s.{Power3s}
use Rattle.readings.specs.declared.Readings.{Readings}
use Rattle.state.specs.declared.Core.{Core}
use Rattle.state.specs.declared.Lap.{Lap}
use Rattle.state.specs.declared.Measured.{Measured}
use Rattle.state.specs.declared.Player.{Player}
use Rattle.state.specs.declared.StepNow.{StepNow}
use Rattle.state.specs.declared.Summary.{Summary}

-- position, steps, totals, done
abbrev pub first_number : Core → ℕ → List Core
first_number c value =
    record { position = value; steps = c.steps; total_ms = c.total_ms; total_mm = c.total_mm; lap = c.lap; measured = c.measured; summary = c.summary; on = c.on; readings = c.readings; done = c.done }
    ∷ record { position = c.position; steps = value; total_ms = c.total_ms; total_mm = c.total_mm; lap = c.lap; measured = c.measured; summary = c.summary; on = c.on; readings = c.readings; done = c.done }
    ∷ record { position = c.position; steps = c.steps; total_ms = record { 0 = value }; total_mm = c.total_mm; lap = c.lap; measured = c.measured; summary = c.summary; on = c.on; readings = c.readings; done = c.done }
    ∷ record { position = c.position; steps = c.steps; total_ms = c.total_ms; total_mm = record { 0 = value }; lap = c.lap; measured = c.measured; summary = c.summary; on = c.on; readings = c.readings; done = c.done }
    ∷ []

abbrev pub last_number : Core → ℕ → Core
last_number c value = record { position = c.position; steps = c.steps; total_ms = c.total_ms; total_mm = c.total_mm; lap = c.lap; measured = c.measured; summary = c.summary; on = c.on; readings = c.readings; done = not (eqb value 0) }

unfoldable pub set_number : Core → ℕ → ℕ → Core
set_number c at value = get_or (first_number c value) at (last_number c value)

-- the step's amounts
abbrev pub first_lap : Lap → ℕ → List Lap
first_lap lap value =
    record { step_ms = value; step_mm = lap.step_mm; extra_s = lap.extra_s; extra_m = lap.extra_m }
    ∷ record { step_ms = lap.step_ms; step_mm = value; extra_s = lap.extra_s; extra_m = lap.extra_m }
    ∷ record { step_ms = lap.step_ms; step_mm = lap.step_mm; extra_s = value % 4294967296; extra_m = lap.extra_m }
    ∷ []

abbrev pub last_lap : Lap → ℕ → Lap
last_lap lap value = record { step_ms = lap.step_ms; step_mm = lap.step_mm; extra_s = lap.extra_s; extra_m = value % 4294967296 }

unfoldable pub set_lap : Lap → ℕ → ℕ → Lap
set_lap lap at value = get_or (first_lap lap value) at (last_lap lap value)

-- the tests' sums, the ring's numbers, the best minute, present
abbrev pub first_measured : Measured → ℕ → List Measured
first_measured m value =
    record { test_mj = value; test_ms = m.test_ms; minute_rest_ms = m.minute_rest_ms; ramp_low_ms = m.ramp_low_ms; ring = m.ring }
    ∷ record { test_mj = m.test_mj; test_ms = value; minute_rest_ms = m.minute_rest_ms; ramp_low_ms = m.ramp_low_ms; ring = m.ring }
    ∷ record { test_mj = m.test_mj; test_ms = m.test_ms; minute_rest_ms = value; ramp_low_ms = m.ramp_low_ms; ring = m.ring }
    ∷ record { test_mj = m.test_mj; test_ms = m.test_ms; minute_rest_ms = m.minute_rest_ms; ramp_low_ms = value; ring = m.ring }
    ∷ record { test_mj = m.test_mj; test_ms = m.test_ms; minute_rest_ms = m.minute_rest_ms; ramp_low_ms = m.ramp_low_ms; ring = record { best_minute = m.ring.best_minute; minute_at = value % 256; minute_len = m.ring.minute_len } }
    ∷ record { test_mj = m.test_mj; test_ms = m.test_ms; minute_rest_ms = m.minute_rest_ms; ramp_low_ms = m.ramp_low_ms; ring = record { best_minute = m.ring.best_minute; minute_at = m.ring.minute_at; minute_len = value % 256 } }
    ∷ []

abbrev pub last_measured : Measured → ℕ → Measured
last_measured m value = record { test_mj = m.test_mj; test_ms = m.test_ms; minute_rest_ms = m.minute_rest_ms; ramp_low_ms = m.ramp_low_ms; ring = record { best_minute = Some (value % 65536); minute_at = m.ring.minute_at; minute_len = m.ring.minute_len } }

unfoldable pub set_measured : Measured → ℕ → ℕ → Measured
set_measured m at value = get_or (first_measured m value) at (last_measured m value)

-- the summary, its FTP present
abbrev pub first_summary : Summary → ℕ → List Summary
first_summary s value =
    record { targeted_ms = value; in_ms = s.in_ms; under_ms = s.under_ms; over_ms = s.over_ms; unread_ms = s.unread_ms; ftp = s.ftp; steps_done = s.steps_done; steps = s.steps; skipped = s.skipped; finished = s.finished }
    ∷ record { targeted_ms = s.targeted_ms; in_ms = value; under_ms = s.under_ms; over_ms = s.over_ms; unread_ms = s.unread_ms; ftp = s.ftp; steps_done = s.steps_done; steps = s.steps; skipped = s.skipped; finished = s.finished }
    ∷ record { targeted_ms = s.targeted_ms; in_ms = s.in_ms; under_ms = value; over_ms = s.over_ms; unread_ms = s.unread_ms; ftp = s.ftp; steps_done = s.steps_done; steps = s.steps; skipped = s.skipped; finished = s.finished }
    ∷ record { targeted_ms = s.targeted_ms; in_ms = s.in_ms; under_ms = s.under_ms; over_ms = value; unread_ms = s.unread_ms; ftp = s.ftp; steps_done = s.steps_done; steps = s.steps; skipped = s.skipped; finished = s.finished }
    ∷ record { targeted_ms = s.targeted_ms; in_ms = s.in_ms; under_ms = s.under_ms; over_ms = s.over_ms; unread_ms = s.unread_ms; ftp = s.ftp; steps_done = value % 65536; steps = s.steps; skipped = s.skipped; finished = s.finished }
    ∷ record { targeted_ms = s.targeted_ms; in_ms = s.in_ms; under_ms = s.under_ms; over_ms = s.over_ms; unread_ms = s.unread_ms; ftp = s.ftp; steps_done = s.steps_done; steps = value % 65536; skipped = s.skipped; finished = s.finished }
    ∷ record { targeted_ms = s.targeted_ms; in_ms = s.in_ms; under_ms = s.under_ms; over_ms = s.over_ms; unread_ms = s.unread_ms; ftp = s.ftp; steps_done = s.steps_done; steps = s.steps; skipped = value % 65536; finished = s.finished }
    ∷ record { targeted_ms = s.targeted_ms; in_ms = s.in_ms; under_ms = s.under_ms; over_ms = s.over_ms; unread_ms = s.unread_ms; ftp = s.ftp; steps_done = s.steps_done; steps = s.steps; skipped = s.skipped; finished = not (eqb value 0) }
    ∷ record { targeted_ms = s.targeted_ms; in_ms = s.in_ms; under_ms = s.under_ms; over_ms = s.over_ms; unread_ms = value; ftp = s.ftp; steps_done = s.steps_done; steps = s.steps; skipped = s.skipped; finished = s.finished }
    ∷ []

abbrev pub last_summary : Summary → ℕ → Summary
last_summary s value = record { targeted_ms = s.targeted_ms; in_ms = s.in_ms; under_ms = s.under_ms; over_ms = s.over_ms; unread_ms = s.unread_ms; ftp = Some (value % 65536); steps_done = s.steps_done; steps = s.steps; skipped = s.skipped; finished = s.finished }

unfoldable pub set_summary : Summary → ℕ → ℕ → Summary
set_summary s at value = get_or (first_summary s value) at (last_summary s value)

-- the step on now: its place in the order; a time, a distance, open; another intensity or target
abbrev pub first_on : StepNow → ℕ → List StepNow
first_on on value =
    record { length = on.length; target = on.target; intensity = on.intensity; index = value % 256; repetition = on.repetition; of = on.of }
    ∷ record { length = on.length; target = on.target; intensity = on.intensity; index = on.index; repetition = value % 256; of = on.of }
    ∷ record { length = on.length; target = on.target; intensity = on.intensity; index = on.index; repetition = on.repetition; of = value % 256 }
    ∷ record { length = Time (value % 65536); target = on.target; intensity = on.intensity; index = on.index; repetition = on.repetition; of = on.of }
    ∷ record { length = Distance (value % 4294967296); target = on.target; intensity = on.intensity; index = on.index; repetition = on.repetition; of = on.of }
    ∷ record { length = Open; target = on.target; intensity = on.intensity; index = on.index; repetition = on.repetition; of = on.of }
    ∷ record { length = on.length; target = on.target; intensity = Warmup; index = on.index; repetition = on.repetition; of = on.of }
    ∷ []

abbrev pub last_on : StepNow → ℕ → StepNow
last_on on value = record { length = on.length; target = HeartZone (value % 256); intensity = on.intensity; index = on.index; repetition = on.repetition; of = on.of }

unfoldable pub set_on : StepNow → ℕ → ℕ → StepNow
set_on on at value = get_or (first_on on value) at (last_on on value)

-- one place of the average: its watts, and present from 65,536 on
unfoldable pub set_place : Power3s → ℕ → ℕ → Power3s
set_place p at value = record { watts = set p.watts (at % 3) (value % 65536); present = set p.present (at % 3) (ltb 65535 value); next = p.next }

-- the last cadence; the average's place; the last heart rate and power; the average's readings
abbrev pub first_readings : Readings → ℕ → List Readings
first_readings r value =
    record { last_sample = record { power_watts = r.last_sample.power_watts; heart_bpm = r.last_sample.heart_bpm; cadence_tenths = Some (value % 65536) }; power = r.power }
    ∷ record { last_sample = r.last_sample; power = record { watts = r.power.watts; present = r.power.present; next = value % 256 } }
    ∷ record { last_sample = record { power_watts = r.last_sample.power_watts; heart_bpm = Some (value % 65536); cadence_tenths = r.last_sample.cadence_tenths }; power = r.power }
    ∷ record { last_sample = record { power_watts = Some (value % 65536); heart_bpm = r.last_sample.heart_bpm; cadence_tenths = r.last_sample.cadence_tenths }; power = r.power }
    ∷ []

abbrev pub last_readings : Readings → ℕ → ℕ → Readings
last_readings r at value = record { last_sample = r.last_sample; power = set_place r.power at value }

unfoldable pub set_readings : Readings → ℕ → ℕ → Readings
set_readings r at value = get_or (first_readings r value) at (last_readings r at value)

-- the groups of the core
abbrev pub first_core : Core → ℕ → ℕ → List Core
first_core c at value =
    set_number c at value
    ∷ record { position = c.position; steps = c.steps; total_ms = c.total_ms; total_mm = c.total_mm; lap = set_lap c.lap at value; measured = c.measured; summary = c.summary; on = c.on; readings = c.readings; done = c.done }
    ∷ record { position = c.position; steps = c.steps; total_ms = c.total_ms; total_mm = c.total_mm; lap = c.lap; measured = set_measured c.measured at value; summary = c.summary; on = c.on; readings = c.readings; done = c.done }
    ∷ record { position = c.position; steps = c.steps; total_ms = c.total_ms; total_mm = c.total_mm; lap = c.lap; measured = c.measured; summary = set_summary c.summary at value; on = c.on; readings = c.readings; done = c.done }
    ∷ record { position = c.position; steps = c.steps; total_ms = c.total_ms; total_mm = c.total_mm; lap = c.lap; measured = c.measured; summary = c.summary; on = set_on c.on at value; readings = c.readings; done = c.done }
    ∷ []

abbrev pub last_core : Core → ℕ → ℕ → Core
last_core c at value = record { position = c.position; steps = c.steps; total_ms = c.total_ms; total_mm = c.total_mm; lap = c.lap; measured = c.measured; summary = c.summary; on = c.on; readings = set_readings c.readings at value; done = c.done }

unfoldable pub set_core : Core → ℕ → ℕ → ℕ → Core
set_core c group at value = get_or (first_core c at value) group (last_core c at value)

-- the counts of steps and of blocks
abbrev pub first_workout : Workout → ℕ → List Workout
first_workout w value =
    record { name = w.name; steps = w.steps; step_count = value % 256; blocks = w.blocks; block_count = w.block_count; test = w.test }
    ∷ []

abbrev pub last_workout : Workout → ℕ → Workout
last_workout w value = record { name = w.name; steps = w.steps; step_count = w.step_count; blocks = w.blocks; block_count = value % 256; test = w.test }

unfoldable pub set_workout : Workout → ℕ → ℕ → Workout
set_workout w at value = get_or (first_workout w value) at (last_workout w value)

-- the core's groups, the workout's, the note's length, the ring's watts
abbrev pub set_in : Player → ℕ → ℕ → ℕ → ℕ → Player
set_in p field group at value =
    cond (ltb group 6) (record { core = set_core p.core group at value; workout = p.workout; note = p.note; minute = p.minute })
    (cond (eqb group 6) (record { core = p.core; workout = set_workout p.workout at value; note = p.note; minute = p.minute })
    (cond (eqb group 7) (record { core = p.core; workout = p.workout; note = record { bytes = p.note.bytes; len = value % 256 }; minute = p.minute })
    (record { core = p.core; workout = p.workout; note = p.note; minute = set p.minute (field % 60) (value % 65536) })))

unfoldable pub set_field : Player → ℕ → ℕ → Player
set_field p field value = set_in p field (field / 16) (field % 16) value
