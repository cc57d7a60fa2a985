-- Standing as facts, of a core whose update is under way: what functions below the calls suppose.
use Rattle.std.specs.Prelude.{◌≡◌, true, ℕ, ◌+◌, ◌≤◌, ◌<◌, leb, Ok}
use Rattle.model.specs.declared.Workout.{Workout}
use Rattle.order.specs.Order.{played_of, played_len, played_in}
use Rattle.validation.specs.Sound.{workout_answer}
use Rattle.state.specs.declared.Core.{Core}
use Rattle.state.specs.State.{SmallEnergy, step_now}
use Rattle.standing.specs.Standing.{same_step, on_place, lap_ok, cadence_in}

-- What a core whose update is under way is known to keep: all of standing, but for the last x ms and y mm of its totals, which are
-- still to be ridden, and but for the amounts of the step on now.
pub record Within (x y : ℕ) (w : Workout) (c : Core) : Type 0 where
  pub valid : workout_answer w ≡ Ok tt
  pub steps : c.steps ≡ played_len w
  pub summary_steps : c.summary.steps ≡ played_len w
  pub steps-done : c.summary.steps_done ≡ c.position
  pub skipped : c.summary.skipped ≤ c.position
  pub position : c.position ≤ played_len w
  pub done : c.done ≡ leb (played_len w) c.position
  pub finished : c.summary.finished ≡ c.done
  pub step : same_step c.on (step_now (played_in (played_of w (on_place c)))) ≡ true
  pub tallies : c.summary.in_ms + c.summary.under_ms + c.summary.over_ms ≡ c.summary.targeted_ms
  pub targeted : c.summary.targeted_ms + c.summary.unread_ms + x ≤ c.total_ms.0
  pub step-ms : c.lap.step_ms + x ≤ c.total_ms.0
  pub step-mm : c.lap.step_mm + y ≤ c.total_mm.0
  pub energy : SmallEnergy c.measured
  pub test-ms : c.measured.test_ms + x ≤ c.total_ms.0
  pub low : c.measured.ramp_low_ms + x ≤ c.total_ms.0
  pub rest : c.measured.minute_rest_ms < 1000
  pub place : c.measured.ring.minute_at < 60
  pub long : c.measured.ring.minute_len ≤ 60
  pub next : c.readings.power.next < 3
  pub cadence : cadence_in c.readings.last_sample.cadence_tenths ≡ true
  pub total-ms : c.total_ms.0 ≤ 604800000
  pub total-mm : c.total_mm.0 ≤ 7000000000

-- The core stands, but for the last x ms and y mm of its totals.
pub record Stands (x y : ℕ) (w : Workout) (c : Core) : Type 0 where
  pub within : Within x y w c
  pub lap : lap_ok c.done c.on.length c.lap ≡ true
