-- `next`: the FTP event, if any, comes before started or finished.
use Rattle.step_end.proofs.Laws.{next-made}
use Rattle.events.proofs.Laws.{one_at_most}
use Rattle.events.specs.Events.{ftp}
use mathlib.Core.Path.{sym, ◌∙◌}
use native.Mathlib.Omega.{arith}
use Rattle.step_end.proofs.next.Goals as goal

pub overflow_cast-position : goal.overflow_cast-position
overflow_cast-position c = omega (arith, c.requires.0.position)

pub push-after-requires : goal.push-after-requires
push-after-requires c = (omega (arith, c.requires, c.push_if-measured_count.ensures.count, one_at_most c.is_some.result (ftp c.unwrap_or.result), c.push_if-measured_count.auto.kinds), omega (arith, c.requires, c.push_if-measured_count.ensures.count, one_at_most c.is_some.result (ftp c.unwrap_or.result), c.push_if-measured_count.auto.values))

pub returns-then-is_some : goal.returns-then-is_some
returns-then-is_some c = let a = c.args in
    next-made a.workout a.skipped a.core c.arrive-moved.result c.played_at-found.result c.result-ftp.result
    c.played_at-found.ensures c.result-ftp.ensures c.arrive-moved.ensures (omega (arith, c.requires)) (omega (arith, c.requires))
    (rw (c.is_some.ensures, c.unwrap_or.ensures) at c.push_if-measured_count.ensures) (rw (sym c.is_some-2.ensures ∙ c.if-is_some.true) c.push-after.ensures)

pub push-after-requires-2 : goal.push-after-requires-2
push-after-requires-2 c = (omega (arith, c.requires, c.push_if-measured_count.ensures.count, one_at_most c.is_some.result (ftp c.unwrap_or.result), c.push_if-measured_count.auto.kinds), omega (arith, c.requires, c.push_if-measured_count.ensures.count, one_at_most c.is_some.result (ftp c.unwrap_or.result), c.push_if-measured_count.auto.values))

pub returns : goal.returns
returns c = let a = c.args in
    next-made a.workout a.skipped a.core c.arrive-moved.result c.played_at-found.result c.result-ftp.result
    c.played_at-found.ensures c.result-ftp.ensures c.arrive-moved.ensures (omega (arith, c.requires)) (omega (arith, c.requires))
    (rw (c.is_some.ensures, c.unwrap_or.ensures) at c.push_if-measured_count.ensures) (rw (sym c.is_some-2.ensures ∙ c.if-is_some.false) c.push-after-2.ensures)
