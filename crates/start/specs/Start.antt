-- player.rs, `new`: a fresh player.
use Rattle.std.specs.Prelude.{false, ℕ, replicate, Err, None, Ok, Result, ⊤}
use Rattle.refusal.specs.declared.Refusal.{Refusal}
use Rattle.model.specs.declared.Workout.{Workout}
use Rattle.model.specs.Workout.{empty_workout}
use Rattle.order.specs.declared.Played.{Played}
use Rattle.order.specs.Order.{played_of, played_len, played_in}
use Rattle.validation.specs.Sound.{workout_answer}
use Rattle.readings.specs.Readings.{no_readings}
use Rattle.state.specs.declared.Summary.{Summary}
use Rattle.state.specs.declared.Core.{Core}
use Rattle.state.specs.declared.Player.{Player}
use Rattle.state.specs.State.{fresh_lap, fresh_measured, step_now}
use Rattle.start.specs.declared.NewPlayer.{NewPlayer}

-- Nothing ridden, the first step on.

abbrev pub no_summary : ℕ → Summary
no_summary steps =
    record {
      targeted_ms = 0;
      in_ms = 0;
      under_ms = 0;
      over_ms = 0;
      unread_ms = 0;
      ftp = None;
      steps_done = 0;
      steps = steps;
      skipped = 0;
      finished = false;
    }

abbrev pub fresh_core : ℕ → Played → Core
fresh_core steps first =
    record {
      position = 0;
      steps = steps;
      total_ms = record { 0 = 0 };
      total_mm = record { 0 = 0 };
      lap = fresh_lap;
      measured = fresh_measured 0;
      summary = no_summary steps;
      on = step_now first;
      readings = no_readings;
      done = false;
    }

abbrev pub fresh_at : Workout → Played → Player
fresh_at w first = record { core = fresh_core (played_len w) first; workout = w; note = first.step.note; minute = replicate 60 0 }

unfoldable pub fresh : Workout → Player
fresh w = fresh_at w (played_in (played_of w 0))

-- "`new` asks 5 to 9. A refused reader gives the empty workout .., a refused `new` a player of it, which doesn't stand."
abbrev pub new_by : Workout → Result ⊤ Refusal → NewPlayer
new_by w (Ok tt) = record { answer = (Ok tt); player = fresh w }
new_by w (Err refusal) = record { answer = Err refusal; player = fresh empty_workout }

unfoldable pub new_of : Workout → NewPlayer
new_of w = new_by w (workout_answer w)
