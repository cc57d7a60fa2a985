-- `push_seconds`: what is left to push gives the same minute.
use Rattle.measure.proofs.Laws.{pushes-step, pushes-end, place-next, places-kept}
use Rattle.measure.specs.Measure.{Minute, minute_of, pushes}
use lib.ListN.{length}
use native.Mathlib.Omega.{arith}
use Prim.Native.Nat.{◌+◌, ◌-◌}
use mathlib.Core.Path.{sym, ap, ◌∙◌}
use Rattle.measure.proofs.push_seconds.Goals as goal

pub loop-preserved : goal.loop-preserved
loop-preserved c = let a = c.args in
    let m : Minute = minute_of c.loop.r c.loop.minute in
    let e = c.push_second-r.ensures in (
      ap (pushes 60 (a.count - (c.loop.counter + 1)) a.watts) e ∙ sym (pushes-step a.count c.loop.counter a.watts m (omega arith)) ∙ c.loop.invariant.0,
      omega (arith, ap (λ (k : Minute). k.ring.minute_at) e, place-next m a.watts),
      ap (λ (k : Minute). length k.watts) e ∙ places-kept m a.watts ∙ c.loop.invariant.2,
      omega arith,
    )

pub returns : goal.returns
returns c = sym (pushes-end c.args.count c.loop.counter c.args.watts (minute_of c.loop.r c.loop.minute) (omega arith)) ∙ c.loop.invariant.0
