-- `known_rides`: the player stands, and what is left to ride gives what all of it does.
use mathlib.Core.Path.{sym, ap, ◌∙◌}
use Prim.Native.Nat.{◌+◌, ◌-◌}
use native.Mathlib.Omega.{arith}
use Rattle.state.specs.declared.Player.{Player}
use Rattle.bench.specs.Rides.{rides_of}
use Rattle.bench.proofs.Laws.{rides-start, rides-next, rides-end, rides-refused}
use Rattle.bench.proofs.known_rides.Goals as goal

pub returns-then-not-is_standing : goal.returns-then-not-is_standing
returns-then-not-is_standing c = let a = c.args in let p = c.begun-player.result in ap (λ (p : Player). p.core.total_ms.0) (sym (rides-refused p (sym c.is_standing.ensures ∙ c.if-not-is_standing.true) a.n) ∙ ap (λ (p : Player). rides_of a.n p) c.begun-player.ensures)

pub loop-init : goal.loop-init
loop-init c = let a = c.args in (rides-start a.n _ _ c.begun-player.ensures, sym c.is_standing.ensures ∙ c.if-not-is_standing.false)

pub known_ride-player-requires : goal.known_ride-player-requires
known_ride-player-requires c = c.loop.invariant.1

pub loop-preserved : goal.loop-preserved
loop-preserved c = let at = c.loop in let a = c.args in (ap (λ (p : Player). rides_of (a.n - (at.counter + 1)) p) c.known_ride-player.ensures.0 ∙ rides-next a.n at.counter at.player _ (omega arith) at.invariant.0, c.known_ride-player.ensures.1)

pub returns : goal.returns
returns c = let at = c.loop in let a = c.args in ap (λ (p : Player). p.core.total_ms.0) (sym (rides-end a.n at.counter at.player (omega arith)) ∙ at.invariant.0)
