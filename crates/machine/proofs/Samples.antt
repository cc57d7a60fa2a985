-- The machine's samples, by running them.
use mathlib.Core.Path.{refl}
use mathlib.Core.List.{flat_map}
use native.Mathlib.Omega.{arith}
use Rattle.common.specs.Lists.{all, all_at, sum, range}
use Rattle.names.specs.Names.{name_ok}
use Rattle.zones.specs.Zones.{percent_of, heart_zone, heart_range}
use Rattle.model.specs.Target.{band_of, capped}
use Rattle.blocks.specs.Blocks.{blocks_sound, all_apart, repeats}
use Rattle.form.specs.Form.{form_ok, step_slots, block_slots, is_no_step}
use Rattle.validation.specs.Sound.{step_ok, valid_answer, workout_answer}
use Rattle.standing.specs.Standing.{same_length, same_target, same_step, same_bytes, same_name, on_place, core_ok, standing_of}
use Rattle.start.specs.Start.{fresh, new_of}
use Rattle.outcomes.specs.Outcomes.{extend_core, extend_by}
use Rattle.player.specs.Calls.{skip_answer, skip_of, extend_with}
use Rattle.machine.specs.Cutting.{uncut, own, alone, sum_ms, sum_mm}
use Rattle.order.specs.Order as order
use Rattle.order.specs.Order.{played_of, played_len, nth, run, runs, block_at}
use Rattle.machine.specs.Machine.{start, step_at, is_finished, reading, with_extra, skipped, ended, result, ramp, twenty, mean, greatest, tally, summed, rested, ridden, ends_now, closed, present, reading_for, millisecond_in, millisecond, milliseconds, summary_of}
use Rattle.machine.specs.Runs.{called, begun, piece_asks, unless_refused, with_piece, after_piece, after_pieces, after_call, after_calls, pieces_ask, call_asks, calls_ask, lasts}
use Rattle.machine.specs.Banded.{banded, banded_ms, list_banded}
use Rattle.machine.specs.Samples.{Samples}

pub samples-are : Samples
unfolding milliseconds millisecond millisecond_in closed ridden ended ends_now summed rested tally reading_for reading with_extra skipped start step_at is_finished played_of order.step_at played_len order.order nth run runs block_at sum range repeats band_of present summary_of result ramp twenty mean greatest begun piece_asks unless_refused with_piece after_piece after_pieces after_call after_calls pieces_ask call_asks calls_ask lasts banded banded_ms list_banded flat_map all all_at name_ok percent_of heart_zone heart_range capped blocks_sound all_apart form_ok step_slots block_slots is_no_step step_ok valid_answer workout_answer same_length same_target same_step same_bytes same_name on_place core_ok standing_of fresh new_of skip_answer skip_of extend_core extend_by extend_with uncut own alone sum_ms sum_mm called
samples-are =
    record {
      taken = record { passes = refl; plain = refl };
      profiled = refl;
      well_cut = ((tt, (record { some = omega arith; ms_sum = refl; mm_sum = refl }, (tt, (tt, (tt, tt))))), (tt, (record { some = omega arith; ms_sum = refl; mm_sum = refl }, (tt, (tt, (tt, tt))))));
      in_memory = record { twelve = refl; reads = (omega arith, (tt, (tt, (tt, (tt, tt))))) };
      one_list = refl;
      not_refused = ((refl, (refl, (refl, (refl, (refl, (refl, tt)))))), (refl, (refl, (refl, (refl, (refl, (refl, tt)))))));
      as_it_stands = (refl, (refl, (refl, (refl, (refl, tt)))));
      skip_refused = refl;
      two = refl;
      three = refl;
      absent = refl;
      lone = refl;
      no_power_lem = refl;
      half_turn = (refl, refl);
      low_end = (refl, refl);
      high_end = (refl, refl);
      zone_1 = (refl, refl, refl);
      zone_2 = (refl, refl);
      no_heart = refl;
      no_band = refl;
      tallies = refl;
      unread = refl;
      under-band = refl;
      tested = refl;
      below = refl;
      skips = refl;
      marked = refl;
      after-skip = refl;
      at_finish = refl;
      longer = refl;
      limits = refl;
      metres = refl;
      refused = refl;
      ridden = refl;
      places = refl;
    }
