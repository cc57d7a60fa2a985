-- A core with other totals and other amounts of its step keeps the rest of standing.
use Prim.Native.Nat.{ℕ, ◌+◌, ◌≤◌}
use Rattle.model.specs.declared.Workout.{Workout}
use Rattle.state.specs.declared.Lap.{Lap}
use Rattle.state.specs.declared.Core.{Core}
use Rattle.standing.specs.Standing.{on_place}
use Rattle.standing.specs.Facts.{Within}

abbrev pub with_amounts : ℕ → ℕ → Lap → Core → Core
with_amounts ms mm lap c =
    record {
      position = c.position;
      steps = c.steps;
      total_ms = record { 0 = ms };
      total_mm = record { 0 = mm };
      lap = lap;
      measured = c.measured;
      summary = c.summary;
      on = c.on;
      readings = c.readings;
      done = c.done;
    }

-- What the amounts have to keep within the totals, with x ms and y mm still to be ridden.
pub record Amounts (x y ms mm : ℕ) (lap : Lap) (c : Core) : Type 0 where
  pub targeted : c.summary.targeted_ms + c.summary.unread_ms + x ≤ ms
  pub step-ms : lap.step_ms + x ≤ ms
  pub step-mm : lap.step_mm + y ≤ mm
  pub test-ms : c.measured.test_ms + x ≤ ms
  pub low : c.measured.ramp_low_ms + x ≤ ms
  pub total-ms : ms ≤ 604800000
  pub total-mm : mm ≤ 7000000000

pub amounts-within : {x y : ℕ} (x' y' ms mm : ℕ) (lap : Lap) (w : Workout) (c : Core) → Within x y w c → Amounts x' y' ms mm lap c → Within x' y' w (with_amounts ms mm lap c)
unfolding on_place
amounts-within x' y' ms mm lap w c h a =
    record {
      valid = h.valid;
      steps = h.steps;
      summary_steps = h.summary_steps;
      steps-done = h.steps-done;
      skipped = h.skipped;
      position = h.position;
      done = h.done;
      finished = h.finished;
      step = h.step;
      tallies = h.tallies;
      targeted = a.targeted;
      step-ms = a.step-ms;
      step-mm = a.step-mm;
      energy = h.energy;
      test-ms = a.test-ms;
      low = a.low;
      rest = h.rest;
      place = h.place;
      long = h.long;
      next = h.next;
      cadence = h.cadence;
      total-ms = a.total-ms;
      total-mm = a.total-mm;
    }
