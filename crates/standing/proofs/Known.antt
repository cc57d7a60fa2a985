-- A standing player's tests as facts, and back.
use Rattle.std.specs.Prelude.{Err, Ok, Result, ⊤}
use mathlib.Core.Path.{◌≡◌, refl, sym, ap}
use mathlib.Core.Bool.{Bool, true, false, cond, ◌&&◌}
use mathlib.Core.List.{List, [], ◌∷◌}
use Prim.Native.Nat.{ℕ, ◌+◌, ◌*◌, ◌≤◌}
use native.Mathlib.Omega.{arith}
use lib.Dec.{ltb, leb, eqb}
use borrow.Author.Tests.{leb-true, ltb-true, eqb-true, le-leb, lt-ltb, eq-eqb}
use Rattle.common.proofs.Tests.{and_left, and_right, and_both}
use Rattle.refusal.specs.declared.Refusal.{Refusal}
use Rattle.model.specs.declared.Workout.{Workout}
use Rattle.order.specs.Order.{played_of, played_len, played_in}
use Rattle.validation.specs.Sound.{workout_answer}
use Rattle.model.specs.declared.Length.{Length}
use Rattle.state.specs.declared.Lap.{Lap}
use Rattle.state.specs.declared.Core.{Core}
use Rattle.state.specs.declared.Player.{Player}
use Rattle.state.specs.State.{step_now}
use Rattle.standing.specs.Standing.{accepted, same, same_step, same_name, on_place, counts_ok, below_end, lap_ok, totals_ok, tallies_ok, measured_ok, cadence_in, readings_ok, core_ok, standing_of}
use Rattle.standing.specs.Facts.{Stands}

-- A row of tests joined from the left: all hold where the row does, and the other way round.
abbrev row : Bool → List Bool → Bool
row a [] = a
row a (t ∷ ts) = row (a && t) ts

abbrev Hold : List Bool → Type 0
Hold [] = Unit
Hold (t ∷ ts) = (t ≡ true) × Hold ts

row-left : (a : Bool) (ts : List Bool) → row a ts ≡ true → a ≡ true
row-left a [] e = e
row-left a (t ∷ ts) e = and_left a t (row-left (a && t) ts e)

row-rest : (a : Bool) (ts : List Bool) → row a ts ≡ true → Hold ts
row-rest a [] e = tt
row-rest a (t ∷ ts) e = (and_right a t (row-left (a && t) ts e), row-rest (a && t) ts e)

row-holds : (a : Bool) (ts : List Bool) → row a ts ≡ true → Hold (a ∷ ts)
row-holds a ts e = (row-left a ts e, row-rest a ts e)

holds_row : (a : Bool) (ts : List Bool) → Hold (a ∷ ts) → row a ts ≡ true
holds_row a [] h = h.0
holds_row a (t ∷ ts) h = holds_row (a && t) ts (and_both h.0 h.1.0, h.1.1)

same_bool : (a b : Bool) → same a b ≡ true → a ≡ b
same_bool true true e = refl
same_bool true false e = sym e
same_bool false true e = e
same_bool false false e = refl

bool_same : (a b : Bool) → a ≡ b → same a b ≡ true
bool_same true true e = refl
bool_same true false e = sym e
bool_same false true e = e
bool_same false false e = refl

accepted-is : (a : Result ⊤ Refusal) → accepted a ≡ true → a ≡ Ok tt
accepted-is (Ok tt) e = refl
accepted-is (Err r) e = let z : ◌≡◌ {A = ℕ} 0 1 = ap (λ (t : Bool). cond t 1 0) e in absurd (omega arith)

module _ (w : Workout) (c : Core) where
  abbrev n : ℕ
  n = played_len w

  abbrev total : ℕ
  total = c.total_ms.0

  abbrev totals_tests : List Bool
  totals_tests = leb c.total_mm.0 7000000000 ∷ leb c.lap.step_ms total ∷ leb c.lap.step_mm c.total_mm.0 ∷ []

  abbrev counts_tests : List Bool
  counts_tests =
      eqb c.summary.steps n
      ∷ eqb c.summary.steps_done c.position
      ∷ leb c.summary.skipped c.position
      ∷ leb c.position n
      ∷ same c.done (leb n c.position)
      ∷ same c.summary.finished c.done ∷ []

  abbrev measured_tests : List Bool
  measured_tests =
      leb c.measured.ramp_low_ms total
      ∷ ltb c.measured.minute_rest_ms 1000
      ∷ ltb c.measured.ring.minute_at 60
      ∷ leb c.measured.ring.minute_len 60 ∷ []

  abbrev inner_tests : List Bool
  inner_tests =
      lap_ok c.done c.on.length c.lap
      ∷ tallies_ok c.summary total
      ∷ measured_ok c.measured total
      ∷ readings_ok c.readings ∷ []

  abbrev step_here : Bool
  step_here = same_step c.on (step_now (played_in (played_of w (on_place c))))

  pub core-known : workout_answer w ≡ Ok tt → step_here ≡ true → core_ok n c ≡ true → Stands 0 0 w c
  unfolding core_ok
  core-known valid step e =
      let s = c.summary in
      let m = c.measured in
      let r = c.readings in
      let inner = row (counts_ok n c) inner_tests in
      let totals = row-holds (leb total 604800000) totals_tests (and_left (totals_ok c) inner e) in
      let h = row-holds (counts_ok n c) inner_tests (and_right (totals_ok c) inner e) in
      let counts = row-holds (eqb c.steps n) counts_tests h.0 in
      let most = leb (s.targeted_ms + s.unread_ms) total in
      let sum = eqb (s.in_ms + s.under_ms + s.over_ms) s.targeted_ms in
      let energy = row (leb m.test_mj (65535 * m.test_ms)) measured_tests in
      let within-total = leb m.test_ms total in
      let measured = row-holds (leb m.test_mj (65535 * m.test_ms)) measured_tests (and_right within-total energy h.1.1.1.0) in
      let cadence = cadence_in r.last_sample.cadence_tenths in
      let place = ltb r.power.next 3 in
      record {
        within =
            record {
              valid = valid;
              steps = eqb-true c.steps n counts.0;
              summary_steps = eqb-true s.steps n counts.1.0;
              steps-done = eqb-true s.steps_done c.position counts.1.1.0;
              skipped = leb-true s.skipped c.position counts.1.1.1.0;
              position = leb-true c.position n counts.1.1.1.1.0;
              done = same_bool c.done (leb n c.position) counts.1.1.1.1.1.0;
              finished = same_bool s.finished c.done counts.1.1.1.1.1.1.0;
              step = step;
              tallies = eqb-true (s.in_ms + s.under_ms + s.over_ms) s.targeted_ms (and_right most sum h.1.1.0);
              targeted = omega (arith, leb-true (s.targeted_ms + s.unread_ms) total (and_left most sum h.1.1.0));
              step-ms = omega (arith, leb-true c.lap.step_ms total totals.1.1.0);
              step-mm = omega (arith, leb-true c.lap.step_mm c.total_mm.0 totals.1.1.1.0);
              energy = leb-true m.test_mj (65535 * m.test_ms) measured.0;
              test-ms = omega (arith, leb-true m.test_ms total (and_left within-total energy h.1.1.1.0));
              low = omega (arith, leb-true m.ramp_low_ms total measured.1.0);
              rest = ltb-true m.minute_rest_ms 1000 measured.1.1.0;
              place = ltb-true m.ring.minute_at 60 measured.1.1.1.0;
              long = leb-true m.ring.minute_len 60 measured.1.1.1.1.0;
              next = ltb-true r.power.next 3 (and_right cadence place h.1.1.1.1.0);
              cadence = and_left cadence place h.1.1.1.1.0;
              total-ms = leb-true total 604800000 totals.0;
              total-mm = leb-true c.total_mm.0 7000000000 totals.1.0;
            };
        lap = h.1.0;
      }

  pub known-core : Stands 0 0 w c → core_ok n c ≡ true
  unfolding core_ok
  known-core k =
      let f = k.within in
      let s = c.summary in
      let m = c.measured in
      let r = c.readings in
      let totals = holds_row (leb total 604800000) totals_tests (le-leb total 604800000 f.total-ms, (le-leb c.total_mm.0 7000000000 f.total-mm, (le-leb c.lap.step_ms total (omega (arith, f.step-ms)), (le-leb c.lap.step_mm c.total_mm.0 (omega (arith, f.step-mm)), tt)))) in
      let counts = holds_row (eqb c.steps n) counts_tests (eq-eqb c.steps n f.steps, (eq-eqb s.steps n f.summary_steps, (eq-eqb s.steps_done c.position f.steps-done, (le-leb s.skipped c.position f.skipped, (le-leb c.position n f.position, (bool_same c.done (leb n c.position) f.done, (bool_same s.finished c.done f.finished, tt))))))) in
      let tallies = and_both (le-leb (s.targeted_ms + s.unread_ms) total (omega (arith, f.targeted))) (eq-eqb (s.in_ms + s.under_ms + s.over_ms) s.targeted_ms f.tallies) in
      let measured = and_both (le-leb m.test_ms total (omega (arith, f.test-ms))) (holds_row (leb m.test_mj (65535 * m.test_ms)) measured_tests (le-leb m.test_mj (65535 * m.test_ms) f.energy, (le-leb m.ramp_low_ms total (omega (arith, f.low)), (lt-ltb m.minute_rest_ms 1000 f.rest, (lt-ltb m.ring.minute_at 60 f.place, (le-leb m.ring.minute_len 60 f.long, tt)))))) in
      let readings = and_both f.cadence (lt-ltb r.power.next 3 f.next) in
      and_both totals (holds_row (counts_ok n c) inner_tests (counts, (k.lap, (tallies, (measured, (readings, tt))))))

-- what a standing player is known to keep
pub record Known (p : Player) : Type 0 where
  pub core : Stands 0 0 p.workout p.core
  pub note : same_name p.note (played_in (played_of p.workout (on_place p.core))).step.note ≡ true

module _ (p : Player) where
  abbrev note_here : Bool
  note_here = same_name p.note (played_in (played_of p.workout (on_place p.core))).step.note

  pub known : standing_of p ≡ true → Known p
  unfolding standing_of
  known e =
      let w = p.workout in
      let a = accepted (workout_answer w) in
      let b = core_ok (played_len w) p.core in
      let shown = step_here w p.core && note_here in
      let both = and_right a (b && shown) e in
      let here = and_right b shown both in
      record {
        core = core-known w p.core (accepted-is (workout_answer w) (and_left a (b && shown) e)) (and_left (step_here w p.core) note_here here) (and_left b shown both);
        note = and_right (step_here w p.core) note_here here;
      }

  pub stands : Known p → standing_of p ≡ true
  unfolding standing_of
  stands k =
      and_both (ap accepted k.core.within.valid) (and_both (known-core p.workout p.core k.core) (and_both k.core.within.step k.note))

-- the seconds that were added, done or not
pub extra-known : (done : Bool) (lasts : Length) (lap : Lap) → lap_ok done lasts lap ≡ true → lap.extra_s ≤ 86400
extra-known true lasts lap e =
    let ms = eqb lap.step_ms 0 in
    let mm = eqb lap.step_mm 0 in
    let s = eqb lap.extra_s 0 in
    omega (arith, eqb-true lap.extra_s 0 (and_right (ms && mm) s (and_left (ms && mm && s) (eqb lap.extra_m 0) e)))
extra-known false lasts lap e =
    let s = leb lap.extra_s 86400 in
    leb-true lap.extra_s 86400 (and_right (below_end lasts lap) s (and_left (below_end lasts lap && s) (leb lap.extra_m 1000000) e))
