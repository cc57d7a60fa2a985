-- `asked_rides`: what is left to ride gives what all of it does.
use mathlib.Core.Path.{sym, ap, ◌∙◌}
use Prim.Native.Nat.{◌+◌, ◌-◌}
use native.Mathlib.Omega.{arith}
use Rattle.state.specs.declared.Player.{Player}
use Rattle.bench.specs.Rides.{rides_of}
use Rattle.bench.proofs.Laws.{rides-start, rides-next, rides-end}
use Rattle.bench.proofs.asked_rides.Goals as goal

pub loop-init : goal.loop-init
loop-init c = let a = c.args in rides-start a.n _ _ c.begun-player.ensures

pub loop-preserved : goal.loop-preserved
loop-preserved c = let at = c.loop in let a = c.args in ap (λ (p : Player). rides_of (a.n - (at.counter + 1)) p) c.asked_ride-player.ensures ∙ rides-next a.n at.counter at.player _ (omega arith) at.invariant

pub returns : goal.returns
returns c = let at = c.loop in let a = c.args in ap (λ (p : Player). p.core.total_ms.0) (sym (rides-end a.n at.counter at.player (omega arith)) ∙ at.invariant)
