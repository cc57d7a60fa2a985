-- `bench_sheet::bench_sheet` meets its contract: the lines compute, but for those of every file of a length.
use mathlib.Core.Path.{refl}
use mathlib.Core.List.{flat_map}
use Rattle.common.specs.Lists.{all, range, sum, all_at}
use Rattle.refusal.specs.Number.{question_number}
use Rattle.names.specs.Names.{name_ok}
use Rattle.zones.specs.Zones.{percent_of, heart_zone, heart_range}
use Rattle.model.specs.Target.{band_of, capped, ramp_option}
use Rattle.blocks.specs.Blocks.{blocks_sound, all_apart, repeats}
use Rattle.order.specs.Order.{run, runs, block_at, order, played_len, nth, step_at, played_of}
use Rattle.form.specs.Form.{form_ok, step_slots, block_slots, is_no_step}
use Rattle.validation.specs.Sound.{step_ok, valid_answer, workout_answer}
use Rattle.power.specs.Power.{window, mean_by, average, average_of, added}
use Rattle.readings.specs.Readings.{taken, compliance_of}
use Rattle.state.specs.State.{tallied, share_of, until_end, read_core}
use Rattle.measure.specs.Measure.{measured_of, twenty_ftp, result_of}
use Rattle.step_end.specs.StepEnd.{countdowns_to, is_over, arrived, next_of}
use Rattle.standing.specs.Standing.{same_length, same_target, same_step, same_bytes, same_name, on_place, core_ok, standing_of}
use Rattle.rounds.specs.Rounds.{advanced, closed, round_of, rounds}
use Rattle.start.specs.Start.{fresh, new_of}
use Rattle.updates.specs.Updates.{ride_now}
use Rattle.player.specs.Calls.{update_answer, ride_answer, ride_of, read_answer, read_of}
use Rattle.reports.specs.Reports.{until_of}
use Rattle.bench_sheet.proofs.Files.{bytes_3, bytes_4, bytes_476}
use Rattle.bench_sheet.proofs.bench_sheet.Goals as goal

pub returns : goal.returns
unfolding question_number flat_map all range sum all_at name_ok percent_of heart_zone heart_range band_of capped ramp_option blocks_sound all_apart repeats run runs block_at order played_len nth step_at played_of form_ok step_slots block_slots is_no_step step_ok valid_answer workout_answer window mean_by average average_of added taken compliance_of tallied share_of until_end read_core measured_of twenty_ftp result_of countdowns_to is_over arrived next_of same_length same_target same_step same_bytes same_name on_place core_ok standing_of advanced closed round_of rounds fresh new_of ride_now update_answer ride_answer ride_of read_answer read_of until_of
returns c =
    record {
      bytes_3 = bytes_3;
      bytes_4 = bytes_4;
      bytes_476 = bytes_476;
      order = refl;
      by_8 = (refl, refl);
      by_9 = refl;
      ftp = refl;
      heart = (refl, refl);
      zone_1 = refl;
      readings = refl;
      twenty = (refl, refl, refl, refl);
      at_once = refl;
      in_two = (refl, refl);
      share = refl;
    }
