-- `play`: what is left of the acts gives what all of them give, and in a ride what is left of its rounds what all of them give.
use mathlib.Core.Path.{refl, sym, ap, ◌∙◌}
use native.Mathlib.Omega.{arith}
use Rattle.outcomes.specs.Outcomes.{player_of}
use Rattle.player.proofs.Laws.{asked-fits}
use Rattle.rounds.specs.Rounds.{riding}
use Rattle.rounds.proofs.Turns.{turn-fits, end_fits, round-ended, round-left}
use Rattle.rounds.proofs.Loop as loop
use Rattle.sheet.specs.declared.ActAnswer.{ActAnswer}
use Rattle.replay.specs.Acts.{nothing_ridden, is_quiet}
use Rattle.replay.proofs.Arms.{quiet-in, goes_on, loop-done, read_next, read-refused, totals-fit, ride-starts, ride-refused, idle-next, ride-next}
use Rattle.replay.proofs.Sheets.{at-start, at_next, at-refused, at-end}
use Rattle.replay.proofs.play.Goals as goal

pub loop-i-init : goal.loop-i-init
loop-i-init c = let a = c.args in
    (at-start a.fresh.workout a.profile a.sheet.now a.n a.fresh.core a.fresh.minute c.requires.0 c.requires.2, refl, refl)

pub overflow_add-kind : goal.overflow_add-kind
overflow_add-kind c = omega (arith, c.loop-i-test.true, c.requires.3, c.requires.4)

pub bounds-sheet-i : goal.bounds-sheet-i
bounds-sheet-i c = omega (arith, c.loop-i-test.true, c.requires.3, c.requires.4)

pub overflow_add-at : goal.overflow_add-at
overflow_add-at c = omega (arith, c.loop-i-test.true, c.requires.3, c.requires.4)

pub overflow_mul-at : goal.overflow_mul-at
overflow_mul-at c = omega (arith, c.loop-i-test.true, c.requires.3, c.requires.4)

pub overflow_add-at-in-loop-i : goal.overflow_add-at-in-loop-i
overflow_add-at-in-loop-i c = omega (arith, c.loop-i-test.true, c.requires.3, c.requires.4)

pub get_u32-requires : goal.get_u32-requires
get_u32-requires c = omega (arith, c.loop-i-test.true, c.requires.3, c.requires.4)

pub overflow_add-at-then-kind-eq2 : goal.overflow_add-at-then-kind-eq2
overflow_add-at-then-kind-eq2 c = omega (arith, c.loop-i-test.true, c.requires.3, c.requires.4)

pub get_u32-requires-then-kind-eq2 : goal.get_u32-requires-then-kind-eq2
get_u32-requires-then-kind-eq2 c = omega (arith, c.loop-i-test.true, c.requires.3, c.requires.4)

pub update_answer-asked-requires : goal.update_answer-asked-requires
update_answer-asked-requires c = let a = c.args in let l = c.loop-i in
    asked-fits (player_of a.fresh.workout (riding l.core l.minute)) l.invariant.0.ready.stands

pub overflow_cast-i : goal.overflow_cast-i
overflow_cast-i c = omega (arith, c.loop-i-test.true, c.requires.3, c.requires.4)

pub returns-in-Err : goal.returns-in-Err
returns-in-Err c = let a = c.args in let l = c.loop-i in
    c.nothing_ridden.ensures ∙ ap nothing_ridden c.refused_at.ensures ∙ ride-refused a.fresh.workout a.profile a.sheet.now a.n a.fresh.core a.fresh.minute l.core l.minute l.i l.invariant.0 c.reading_fits.ensures c.loop-i-test.true c.requires.1 c.if-kind-eq2.true c.get_u32.result c.get_u32-then-kind-eq2.result c.get_u32.ensures c.get_u32-then-kind-eq2.ensures _ (sym c.update_answer-asked.ensures ∙ c.in-Err.is)

pub loop-i-preserved-then-ms-eq0 : goal.loop-i-preserved-then-ms-eq0
loop-i-preserved-then-ms-eq0 c = let a = c.args in let l = c.loop-i in (idle-next a.fresh.workout a.profile a.sheet.now a.n a.fresh.core a.fresh.minute l.core l.minute l.i l.invariant.0 c.reading_fits.ensures c.loop-i-test.true c.requires.1 c.if-kind-eq2.true c.get_u32.result c.get_u32-then-kind-eq2.result c.get_u32.ensures c.get_u32-then-kind-eq2.ensures (sym c.update_answer-asked.ensures ∙ c.in_default.is) c.if-ms-eq0.true, l.invariant.1, l.invariant.2)

pub add_totals-requires : goal.add_totals-requires
add_totals-requires c = let a = c.args in let l = c.loop-i in totals-fit a.fresh.workout a.profile a.sheet.now a.n a.fresh.core a.fresh.minute l.core l.minute l.i l.invariant.0 c.reading_fits.ensures c.loop-i-test.true c.get_u32.result c.get_u32-then-kind-eq2.result (sym c.update_answer-asked.ensures ∙ c.in_default.is)

pub loop-j-init : goal.loop-j-init
loop-j-init c = let a = c.args in let l = c.loop-i in
    (ride-starts a.fresh.workout a.profile a.sheet.now a.n a.fresh.core a.fresh.minute l.core l.minute l.i l.invariant.0 c.reading_fits.ensures c.loop-i-test.true c.get_u32.result c.get_u32-then-kind-eq2.result (sym c.update_answer-asked.ensures ∙ c.in_default.is) l.kinds l.values c.add_totals.result c.add_totals.ensures l.invariant.1 l.invariant.2, l.invariant.1, l.invariant.2)

pub turn-ride-requires : goal.turn-ride-requires
turn-ride-requires c = let a = c.args in let l = c.loop-i in let r = c.loop-j in let on = goes_on r.j c.is_stopped.result r.ride c.is_stopped.ensures c.loop-j-test.true in let rides = loop.rides-sized a.fresh.workout r.ride (r.invariant.1 ∙ sym l.invariant.1) (r.invariant.2 ∙ sym l.invariant.2) r.invariant.0.rides in
    (turn-fits a.fresh.workout r.ride r.kinds r.values rides on.1 (omega (arith, on.0, r.invariant.0.parts)), r.invariant.0.minute)

pub overflow_add-j : goal.overflow_add-j
overflow_add-j c = let a = c.args in let l = c.loop-i in let r = c.loop-j in let on = goes_on r.j c.is_stopped.result r.ride c.is_stopped.ensures c.loop-j-test.true in omega (arith, on.0)

pub end_step-ride-requires : goal.end_step-ride-requires
end_step-ride-requires c = let a = c.args in let l = c.loop-i in let r = c.loop-j in let on = goes_on r.j c.is_stopped.result r.ride c.is_stopped.ensures c.loop-j-test.true in let rides = loop.rides-sized a.fresh.workout r.ride (r.invariant.1 ∙ sym l.invariant.1) (r.invariant.2 ∙ sym l.invariant.2) r.invariant.0.rides in
    end_fits a.fresh.workout r.ride r.kinds r.values rides on.1 a.profile c.turn-ride.result c.turn-ride.ensures c.turn-ride.auto.kinds c.turn-ride.auto.values (sym c.is_over.ensures ∙ c.if-is_over.true)

pub loop-j-smaller-then-is_over : goal.loop-j-smaller-then-is_over
loop-j-smaller-then-is_over c = let a = c.args in let l = c.loop-i in let r = c.loop-j in let on = goes_on r.j c.is_stopped.result r.ride c.is_stopped.ensures c.loop-j-test.true in omega (arith, on.0)

pub loop-j-preserved-then-is_over : goal.loop-j-preserved-then-is_over
loop-j-preserved-then-is_over c = let a = c.args in let l = c.loop-i in let r = c.loop-j in let on = goes_on r.j c.is_stopped.result r.ride c.is_stopped.ensures c.loop-j-test.true in let rides = loop.rides-sized a.fresh.workout r.ride (r.invariant.1 ∙ sym l.invariant.1) (r.invariant.2 ∙ sym l.invariant.2) r.invariant.0.rides in (
  loop.at_next a.fresh.workout a.profile c.end_step-ride.result r.j r.invariant.0 on.1 on.0 (round-ended a.fresh.workout r.ride r.kinds r.values rides on.1 a.profile c.turn-ride.result c.turn-ride.ensures c.end_step-ride.result (sym c.is_over.ensures ∙ c.if-is_over.true) c.end_step-ride.ensures),
  c.end_step-ride.auto.kinds ∙ c.turn-ride.auto.kinds ∙ r.invariant.1,
  c.end_step-ride.auto.values ∙ c.turn-ride.auto.values ∙ r.invariant.2,
)

pub loop-j-smaller : goal.loop-j-smaller
loop-j-smaller c = let a = c.args in let l = c.loop-i in let r = c.loop-j in let on = goes_on r.j c.is_stopped.result r.ride c.is_stopped.ensures c.loop-j-test.true in omega (arith, on.0)

pub loop-j-preserved : goal.loop-j-preserved
loop-j-preserved c = let a = c.args in let l = c.loop-i in let r = c.loop-j in let on = goes_on r.j c.is_stopped.result r.ride c.is_stopped.ensures c.loop-j-test.true in let rides = loop.rides-sized a.fresh.workout r.ride (r.invariant.1 ∙ sym l.invariant.1) (r.invariant.2 ∙ sym l.invariant.2) r.invariant.0.rides in (
  loop.at_next a.fresh.workout a.profile c.turn-ride.result r.j r.invariant.0 on.1 on.0 (round-left a.fresh.workout r.ride r.kinds r.values rides on.1 a.profile c.turn-ride.result c.turn-ride.ensures (sym c.is_over.ensures ∙ c.if-is_over.false)),
  c.turn-ride.auto.kinds ∙ r.invariant.1,
  c.turn-ride.auto.values ∙ r.invariant.2,
)

pub loop-i-preserved-then-kind-eq2 : goal.loop-i-preserved-then-kind-eq2
loop-i-preserved-then-kind-eq2 c = let a = c.args in let l = c.loop-i in let r = c.loop-j in (
  ride-next a.fresh.workout a.profile a.sheet.now a.n a.fresh.core a.fresh.minute l.core l.minute l.i l.invariant.0 c.reading_fits.ensures c.loop-i-test.true c.requires.1 c.if-kind-eq2.true c.get_u32.result c.get_u32-then-kind-eq2.result c.get_u32.ensures c.get_u32-then-kind-eq2.ensures (sym c.update_answer-asked.ensures ∙ c.in_default.is) c.add_totals.result r.ride c.add_totals.ensures c.if-ms-eq0.false (loop-done a.fresh.workout a.profile r.j c.is_stopped.result r.invariant.0 c.is_stopped.ensures c.loop-j-test.false),
  r.invariant.1,
  r.invariant.2,
)

pub sample_at-sample-requires : goal.sample_at-sample-requires
sample_at-sample-requires c = omega (arith, c.loop-i-test.true, c.requires.3, c.requires.4)

pub overflow_cast-i-then-not-cadence_in : goal.overflow_cast-i-then-not-cadence_in
overflow_cast-i-then-not-cadence_in c = omega (arith, c.loop-i-test.true, c.requires.3, c.requires.4)

pub returns-then-not-cadence_in : goal.returns-then-not-cadence_in
returns-then-not-cadence_in c = let a = c.args in let l = c.loop-i in
    c.nothing_ridden-then-not-cadence_in.ensures ∙ ap nothing_ridden c.refused_at-then-not-cadence_in.ensures ∙ read-refused a.fresh.workout a.profile a.sheet.now a.n a.fresh.core a.fresh.minute l.core l.minute l.i l.invariant.0 c.reading_fits.ensures c.loop-i-test.true c.if-kind-eq1.true c.sample_at-sample.result c.sample_at-sample.ensures (sym c.cadence_in.ensures ∙ c.if-not-cadence_in.true)

pub loop-i-preserved-then-kind-eq1 : goal.loop-i-preserved-then-kind-eq1
loop-i-preserved-then-kind-eq1 c = let a = c.args in let l = c.loop-i in
    (read_next a.fresh.workout a.profile a.sheet.now a.n a.fresh.core a.fresh.minute l.core l.minute l.i l.invariant.0 c.reading_fits.ensures c.loop-i-test.true c.if-kind-eq1.true c.sample_at-sample.result c.sample_at-sample.ensures c.read-core.result c.read-core.ensures (sym c.cadence_in.ensures ∙ c.if-not-cadence_in.false), l.invariant.1, l.invariant.2)

pub act_at-act-requires : goal.act_at-act-requires
act_at-act-requires c = (c.requires.3, c.loop-i-test.true, c.requires.4)

pub quiet_act-acted-requires : goal.quiet_act-acted-requires
quiet_act-acted-requires c = let a = c.args in let l = c.loop-i in (l.invariant.0.ready, ap is_quiet c.act_at-act.ensures ∙ quiet-in a.sheet.now a.n l.i c.if-kind-eq1.false c.if-kind-eq2.false, l.invariant.1, l.invariant.2)

pub overflow_cast-i-in-Err-answer : goal.overflow_cast-i-in-Err-answer
overflow_cast-i-in-Err-answer c = omega (arith, c.loop-i-test.true, c.requires.3, c.requires.4)

pub returns-in-Err-answer : goal.returns-in-Err-answer
returns-in-Err-answer c = let a = c.args in let l = c.loop-i in
    c.nothing_ridden-in-Err-answer.ensures ∙ ap nothing_ridden c.refused_at-in-Err-answer.ensures ∙ at-refused a.fresh.workout a.profile a.sheet.now a.n a.fresh.core a.fresh.minute l.core l.minute l.i l.invariant.0 _ _ _ c.loop-i-test.true c.act_at-act.ensures c.quiet_act-acted.ensures.0 c.in-Err-answer.is

pub loop-i-preserved : goal.loop-i-preserved
loop-i-preserved c = let a = c.args in let l = c.loop-i in (
  at_next a.fresh.workout a.profile a.sheet.now a.n a.fresh.core a.fresh.minute l.core l.minute l.i l.invariant.0 _ _ c.loop-i-test.true c.act_at-act.ensures c.quiet_act-acted.ensures.0 c.quiet_act-acted.ensures.1 c.in_default-answer.is,
  c.quiet_act-acted.auto.kinds ∙ l.invariant.1,
  c.quiet_act-acted.auto.values ∙ l.invariant.2,
)

pub returns : goal.returns
returns c = let a = c.args in let l = c.loop-i in
    ap (λ (t : ActAnswer). record { outcome = t; name = a.fresh.workout.name; test = a.fresh.workout.test; summary = l.core.summary }) c.accepted_all.ensures ∙ at-end a.fresh.workout a.profile a.sheet.now a.n a.fresh.core a.fresh.minute l.core l.minute l.i l.invariant.0 c.loop-i-test.false
