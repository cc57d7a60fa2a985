-- `sample_pairs` by running player and machine.
use mathlib.Core.Path.{refl}
use mathlib.Core.List.{flat_map}
use Prim.Native.Nat.{ℕ, ◌+◌, ◌<◌}
use native.Mathlib.Omega.{arith}
use Rattle.common.specs.Lists.{all, all_at, sum, range}
use Rattle.names.specs.Names.{name_ok}
use Rattle.blocks.specs.Blocks.{blocks_sound, all_apart, repeats}
use Rattle.order.specs.Order as order
use Rattle.order.specs.Order.{played_of, played_len, nth, runs, block_at}
use Rattle.form.specs.Form.{form_ok, step_slots, block_slots, is_no_step}
use Rattle.validation.specs.Sound.{step_ok, valid_answer, workout_answer}
use Rattle.model.specs.Target.{band_of}
use Rattle.power.specs.Power.{window, mean_by, average, average_of, added}
use Rattle.readings.specs.Readings.{taken, compliance_of}
use Rattle.state.specs.State.{tallied, share_of, until_end, read_core}
use Rattle.measure.specs.Measure.{measured_of, twenty_ftp, result_of}
use Rattle.step_end.specs.StepEnd.{countdowns_to, is_over, arrived, next_of}
use Rattle.standing.specs.Standing.{same_length, same_target, same_step, same_bytes, same_name, on_place, core_ok, standing_of}
use Rattle.rounds.specs.Rounds as rounds
use Rattle.start.specs.Start.{fresh, new_of}
use Rattle.outcomes.specs.Outcomes.{extend_core, extend_by}
use Rattle.updates.specs.Updates.{ride_now, skip_now}
use Rattle.player.specs.Calls.{update_answer, ride_answer, ride_of, read_answer, read_of, skip_answer, skip_of, extend_with}
use Rattle.machine.specs.Machine.{start, step_at, reading, with_extra, skipped, ended, result, twenty, tally, summed, ridden, ends_now, closed, is_finished, millisecond_in, millisecond, milliseconds}
use Rattle.machine.specs.Cutting.{own, alone}
use Rattle.machine.specs.Samples.{profile}
use Rattle.machine.specs.Runs.{called, run, begun, piece_asks, unless_refused, with_piece, after_piece, after_pieces, after_call, after_calls}
use Rattle.one_reading.specs.OneReading.{first, second, testing, played_tests, in_test, test_time, whole_time, until_read, latest_time, quotient_up, most_rise, Comparable}
use Rattle.one_reading.specs.Pairs.{short_test, last_ms}
use Rattle.one_reading.proofs.sample_pairs.Goals as goal

pub returns : goal.returns
unfolding flat_map all all_at sum range name_ok blocks_sound all_apart repeats order.step_at order.order order.run played_of played_len nth runs block_at form_ok step_slots block_slots is_no_step step_ok valid_answer workout_answer band_of window mean_by average average_of added taken compliance_of tallied share_of until_end read_core measured_of twenty_ftp result_of countdowns_to is_over arrived next_of same_length same_target same_step same_bytes same_name on_place core_ok standing_of rounds.advanced rounds.closed rounds.round_of rounds.rounds fresh new_of extend_core extend_by ride_now skip_now update_answer ride_answer ride_of read_answer read_of skip_answer skip_of extend_with start step_at reading with_extra skipped ended result twenty tally summed ridden ends_now closed is_finished millisecond_in millisecond milliseconds own alone called run begun piece_asks unless_refused with_piece after_piece after_pieces after_call after_calls first second testing played_tests in_test test_time whole_time until_read latest_time quotient_up most_rise
returns c =
    record {
      last-ms = (last-ms-comparable 1 (omega arith), record { first_ftp = refl; second_ftp = refl; latest = refl; whole = refl });
      last_ms_met = refl;
      rounded_down = omega arith;
      percent = (last-ms-comparable 1001 (omega arith), record { first_ftp = refl; second_ftp = refl; latest = refl; whole = refl });
      percent_met = refl;
      of_95_percent = omega arith;
      part-of-test = (
        record {
          taken = record { passes = refl; plain = refl };
          twenty = refl;
          one_test = refl;
          profiled = refl;
          first_accepted = (refl, (refl, (refl, (refl, (refl, (refl, (refl, (refl, (refl, (refl, (refl, (refl, (refl, (refl, tt))))))))))))));
          second_accepted = (refl, (refl, (refl, (refl, (refl, (refl, (refl, (refl, (refl, (refl, (refl, (refl, (refl, (refl, tt))))))))))))));
          first_in_memory = record { twelve = refl; reads = (omega arith, (tt, (tt, (omega arith, (tt, (omega arith, (tt, (tt, (tt, (tt, (omega arith, (tt, (omega arith, (tt, tt)))))))))))))) };
          second_in_memory = record { twelve = refl; reads = (omega arith, (tt, (tt, (omega arith, (tt, (omega arith, (tt, (tt, (tt, (tt, (omega arith, (tt, (omega arith, (tt, tt)))))))))))))) };
        },
        record { first_ftp = refl; second_ftp = refl; latest = refl; whole = refl },
      );
      part_of_test_met = refl;
      two-tests = (refl, record { first_ftp = refl; second_ftp = refl; latest = refl; whole = refl });
      two_tests_above = omega arith;
    }
  where
    -- whatever the rise, as far as 16 bits hold it
    last-ms-comparable : (rise : ℕ) → 599 + rise < 65536 → Comparable short_test profile (last_ms rise)
    last-ms-comparable rise h =
        record {
          taken = record { passes = refl; plain = refl };
          twenty = refl;
          one_test = refl;
          profiled = refl;
          first_accepted = (refl, (refl, (refl, (refl, tt))));
          second_accepted = (refl, (refl, (refl, (refl, tt))));
          first_in_memory = record { twelve = refl; reads = (omega arith, (tt, (omega arith, (tt, tt)))) };
          second_in_memory = record { twelve = refl; reads = (omega arith, (tt, (h, (tt, tt)))) };
        }
