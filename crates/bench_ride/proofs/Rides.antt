-- Both statements, by running the definitions.
use mathlib.Core.Path.{refl}
use mathlib.Core.List.{flat_map}
use Rattle.machine.specs.Runs.{called}
use Rattle.common.specs.Lists.{all, all_at, sum, range}
use Rattle.refusal.specs.Number.{question_number}
use Rattle.le.specs.Le.{number_of, bytes_of}
use Rattle.checksum.specs.V42.{add, remainder, quotient, product, digits, bits, frame_check, number}
use Rattle.checksum.specs.V42 as checksum-v42
use Rattle.sheet.specs.Sheet.{size_ok, act_in, acts_from, sample_ok, act_ok, fault_from}
use Rattle.sheet.specs.Sheet as sheet-sheet
use Rattle.names.specs.Names.{name_from, name_ok}
use Rattle.zones.specs.Zones.{percent_of, profile_answer}
use Rattle.model.specs.Target.{capped, ramp_option, band_of}
use Rattle.model.specs.Workout.{empty_workout}
use Rattle.blocks.specs.Blocks.{all_apart, blocks_sound, repeats}
use Rattle.order.specs.Order.{run, runs, order, nth, played_of, played_len}
use Rattle.order.specs.Order as order-order
use Rattle.decode.specs.Decode.{test_of, read_counts, read_head, read_block, read_body, contents_of}
use Rattle.decode.specs.Decode as decode-decode
use Rattle.steps.specs.Steps.{intensity_of, length_of, target_of, fixed_of, read_step}
use Rattle.steps.specs.Steps as steps-steps
use Rattle.form.specs.Form.{is_no_step, step_slots, block_slots, form_ok}
use Rattle.validation.specs.Sound.{step_ok, valid_answer, workout_answer}
use Rattle.cursor.specs.Names.{read_text, read_name}
use Rattle.cursor.specs.Reading.{and_then, read_many, take_bytes, read_byte}
use Rattle.history.specs.Record.{flags_of, text_bytes, tally_bytes, record_bytes}
use Rattle.history.specs.Record as history-record
use Rattle.power.specs.Power.{window, mean_by, average, average_of, added}
use Rattle.readings.specs.Readings.{taken, reading_of, judged, compliance_of}
use Rattle.state.specs.State.{tallied, share_of, until_end, read_core}
use Rattle.measure.specs.Measure.{measured_of, result_of}
use Rattle.step_end.specs.StepEnd.{countdowns_to, is_over, arrived, next_of}
use Rattle.standing.specs.Standing.{same_length, same_target, same_step, same_bytes, same_name, on_place, core_ok, standing_of}
use Rattle.rounds.specs.Rounds.{advanced, closed, round_of, rounds}
use Rattle.start.specs.Start.{fresh, new_of}
use Rattle.outcomes.specs.Outcomes.{extend_core, extend_by}
use Rattle.updates.specs.Updates.{ride_now}
use Rattle.player.specs.Calls.{update_answer, ride_answer, ride_of, read_answer, read_of, extend_with}
use Rattle.replay.specs.Acts.{act_called, play_acts}
use Rattle.replay.specs.Replay.{play_sheet, ridden_of, replay_answer, replay_output}
use Rattle.line.specs.Line.{decimal_in, decimal_of, summary_text, refusal_text, line_of}
use Rattle.bench_ride.specs.BenchRide.{BenchRide}
use Rattle.bench_ride.specs.Extends.{ExtendedRides}

pub rides : BenchRide × ExtendedRides
unfolding flat_map all all_at called sum range question_number number_of bytes_of add remainder quotient product digits bits frame_check number checksum-v42.check_of size_ok act_in acts_from sample_ok act_ok fault_from sheet-sheet.check_of name_from name_ok percent_of profile_answer capped ramp_option band_of empty_workout all_apart blocks_sound repeats run runs order nth played_of played_len order-order.block_at order-order.step_at test_of read_counts read_head read_block read_body contents_of decode-decode.block_at decode-decode.file_of decode-decode.decode_of intensity_of length_of target_of fixed_of read_step steps-steps.step_at is_no_step step_slots block_slots form_ok step_ok valid_answer workout_answer read_text read_name and_then read_many take_bytes read_byte flags_of text_bytes tally_bytes record_bytes history-record.head_bytes history-record.body_bytes window mean_by average average_of added taken reading_of judged compliance_of tallied share_of until_end read_core measured_of result_of countdowns_to is_over arrived next_of same_length same_target same_step same_bytes same_name on_place core_ok standing_of advanced closed round_of rounds fresh new_of ride_now update_answer ride_answer ride_of read_answer read_of extend_core extend_by extend_with act_called play_acts play_sheet ridden_of replay_answer replay_output decimal_in decimal_of summary_text refusal_text line_of
rides = (
  record { accepted = refl; record_is = refl; line_is = refl; refused = refl; stays = refl; refused_line_is = refl },
  record { kind_4 = (refl, refl); kind_5 = (refl, refl); with_value = refl; kind_6 = refl },
)
