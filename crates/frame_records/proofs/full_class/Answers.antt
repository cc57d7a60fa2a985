-- `full_class`: each by computation.
use mathlib.Core.Path.{refl}
use mathlib.Core.List.{flat_map}
use Rattle.common.specs.Lists.{all, all_at, sum, range}
use Rattle.names.specs.Names.{name_ok}
use Rattle.zones.specs.Zones.{percent_of, heart_range}
use Rattle.model.specs.Target.{capped, stage_of, stage_watts, watts_at, ramp_band, of_ftp, ramp_option, band_of}
use Rattle.model.specs.Workout.{empty_workout}
use Rattle.blocks.specs.Blocks.{blocks_sound, all_apart, repeats}
use Rattle.order.specs.Order.{played_of, played_len, nth, run, runs, block_at, order, step_at}
use Rattle.form.specs.Form.{form_ok, step_slots, block_slots, is_no_step}
use Rattle.validation.specs.Sound.{step_ok, valid_answer, workout_answer}
use Rattle.power.specs.Power.{window, mean_by, average, average_of}
use Rattle.readings.specs.Readings.{reading_of, judged, compliance_of}
use Rattle.state.specs.State.{tallied, share_of, until_end}
use Rattle.measure.specs.Measure.{measured_of, result_of}
use Rattle.step_end.specs.StepEnd.{countdowns_to, is_over, arrived, next_of}
use Rattle.rounds.specs.Rounds.{advanced, closed, round_of, rounds}
use Rattle.updates.specs.Updates.{skip_now, ride_now}
use Rattle.standing.specs.Standing.{same_length, same_target, same_step, same_bytes, same_name, on_place, core_ok, standing_of}
use Rattle.start.specs.Start.{fresh, new_of}
use Rattle.player.specs.Calls.{skip_answer, skip_of, update_answer, ride_answer, ride_of}
use Rattle.screen.specs.Screen.{shown_band}
use Rattle.supply.specs.Supply.{level_up_to, level_of, grants_of}
use Rattle.frame.specs.Frame.{want_of, bikes_answer, grant_of}
use Rattle.machine.specs.Runs.{called}
use Rattle.frame_records.specs.Apart.{changed_at, frame_run}
use Rattle.frame_records.proofs.full_class.Goals as goal

pub returns : goal.returns
unfolding empty_workout flat_map all all_at sum range name_ok percent_of heart_range capped stage_of stage_watts watts_at ramp_band of_ftp ramp_option band_of blocks_sound all_apart repeats played_of played_len nth run runs block_at order step_at form_ok step_slots block_slots is_no_step step_ok valid_answer workout_answer same_length same_target same_step same_bytes same_name on_place core_ok standing_of fresh new_of window mean_by average average_of reading_of judged compliance_of tallied share_of until_end measured_of result_of countdowns_to is_over arrived next_of advanced closed round_of rounds skip_now ride_now skip_answer skip_of update_answer ride_answer ride_of shown_band level_up_to level_of grants_of want_of bikes_answer grant_of called changed_at frame_run
returns c =
    record {
      stand = refl;
      wanted = refl;
      short = refl;
      finished = refl;
      power_bands = refl;
      no_power_lem = refl;
      rising = refl;
      out_of_range = refl;
      standing_first = refl;
      in_turn = refl;
      turn_after = refl;
      no_such_bike = refl;
    }
