-- `countdown_to`: three events that may be due, one after the other.
use Rattle.step_end.specs.StepEnd.{countdowns_to}
use Rattle.events.proofs.Laws.{wrote_then, one_at_most}
use Rattle.events.specs.Events.{countdown}
use native.Mathlib.Omega.{arith}
use Rattle.step_end.proofs.countdown_to.Goals as goal

pub push_if-b-requires : goal.push_if-b-requires
push_if-b-requires c = (omega (arith, c.push_if-a.ensures.count, one_at_most c.is_due.result (countdown 3), c.push_if-a.auto.kinds), omega (arith, c.push_if-a.ensures.count, one_at_most c.is_due.result (countdown 3), c.push_if-a.auto.values))

pub push_if-requires : goal.push_if-requires
push_if-requires c = (omega (arith, c.push_if-a.ensures.count, one_at_most c.is_due.result (countdown 3), c.push_if-a.auto.kinds, c.push_if-b.ensures.count, one_at_most c.is_due-2.result (countdown 2), c.push_if-b.auto.kinds), omega (arith, c.push_if-a.ensures.count, one_at_most c.is_due.result (countdown 3), c.push_if-a.auto.values, c.push_if-b.ensures.count, one_at_most c.is_due-2.result (countdown 2), c.push_if-b.auto.values))

pub returns : goal.returns
unfolding countdowns_to
returns c = rw (← c.is_due.ensures, ← c.is_due-2.ensures, ← c.is_due-3.ensures)
    (wrote_then (omega arith) (omega arith) (wrote_then (omega arith) (omega arith) c.push_if-a.ensures c.push_if-b.ensures) c.push_if.ensures)
