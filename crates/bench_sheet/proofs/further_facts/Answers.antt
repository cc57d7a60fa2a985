-- `further_facts` by running the definitions.
use mathlib.Core.Path.{refl}
use mathlib.Core.List.{flat_map}
use Rattle.common.specs.Lists.{all, range, sum, all_at}
use Rattle.names.specs.Names.{name_ok}
use Rattle.zones.specs.Zones.{percent_of, heart_zone, heart_range}
use Rattle.model.specs.Target.{stage_of, stage_watts, watts_at, ramp_band, of_ftp, band_of, capped, ramp_option}
use Rattle.blocks.specs.Blocks.{blocks_sound, all_apart, repeats}
use Rattle.order.specs.Order.{planned_from, has_untimed, run, runs, block_at, order, played_len, nth, step_at, played_of}
use Rattle.form.specs.Form.{form_ok, step_slots, block_slots, is_no_step}
use Rattle.validation.specs.Sound.{step_ok, valid_answer, workout_answer}
use Rattle.power.specs.Power.{window, mean_by, average, average_of, added}
use Rattle.readings.specs.Readings.{taken, reading_of, judged, compliance_of}
use Rattle.state.specs.State.{tallied, share_of, until_end, read_core}
use Rattle.measure.specs.Measure.{pushed, pushes, ramp_part, measured_of, twenty_ftp, result_of}
use Rattle.step_end.specs.StepEnd.{countdowns_to, is_over, arrived, next_of}
use Rattle.standing.specs.Standing.{same_length, same_target, same_step, same_bytes, same_name, on_place, core_ok, standing_of}
use Rattle.rounds.specs.Rounds.{advanced, closed, round_of, rounds}
use Rattle.screen.specs.Screen.{remaining_of}
use Rattle.start.specs.Start.{fresh, new_of}
use Rattle.outcomes.specs.Outcomes.{extend_core, extend_by}
use Rattle.updates.specs.Updates.{ride_now, skip_now}
use Rattle.player.specs.Calls.{update_answer, ride_answer, ride_of, read_answer, read_of, skip_answer, skip_of, extend_with}
use Rattle.reports.specs.Reports.{remaining_secs, until_of}
use Rattle.bench_sheet.proofs.further_facts.Goals as goal

pub returns : goal.returns
unfolding flat_map all range sum all_at name_ok percent_of heart_zone heart_range band_of capped ramp_option blocks_sound all_apart repeats run runs block_at order played_len nth step_at played_of form_ok step_slots block_slots is_no_step step_ok valid_answer workout_answer window mean_by average average_of added taken compliance_of tallied share_of until_end read_core measured_of twenty_ftp result_of countdowns_to is_over arrived next_of same_length same_target same_step same_bytes same_name on_place core_ok standing_of advanced closed round_of rounds fresh new_of ride_now update_answer ride_answer ride_of read_answer read_of skip_now skip_answer skip_of extend_core extend_by extend_with until_of pushed pushes ramp_part ramp_band of_ftp watts_at stage_of stage_watts reading_of judged remaining_of remaining_secs has_untimed planned_from
returns c =
    record {
      three = refl;
      four = refl;
      absent = refl;
      lone = refl;
      no-reading = refl;
      no_target = refl;
      watts_band = refl;
      lthr_band = refl;
      cadence_band = refl;
      ramp-band = (refl, refl);
      ftp_ramp_band = (refl, refl);
      low_end = (refl, refl);
      high_end = (refl, refl);
      turns = (refl, refl);
      zone_1 = (refl, refl);
      zone_2 = (refl, refl);
      zones = (refl, refl);
      no_heart = refl;
      no_band = refl;
      one_part = (refl, refl);
      two_parts = (refl, refl);
      three_parts = (refl, refl);
      no_parts = (refl, refl);
      ends = refl;
      tested = refl;
      counted_at_once = refl;
      before_mark = refl;
      at_mark = (refl, refl);
      in_many = (refl, refl);
      in_the_end = refl;
      left = (refl, refl);
      left_less = (refl, refl);
      gives_up = refl;
      just_not = (refl, refl);
      holds = refl;
      plain = (refl, refl);
      by_amount = (refl, refl);
      most_seconds = (refl, refl);
      most_metres = (refl, refl);
      none_more = refl;
      not_extended_lem = (refl, refl);
      own_average = (refl, refl);
      own_after_skip = refl;
      own_minute = (refl, refl);
      own_seconds = refl;
      own_rest = refl;
      at_finish = refl;
      low_runs_on = refl;
      first_stage = (refl, refl);
    }
