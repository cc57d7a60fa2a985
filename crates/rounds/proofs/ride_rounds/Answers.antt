-- `ride_rounds`: after each round the events so far and what the rest of the loop gives are those of the whole loop (Loop).
use Rattle.rounds.proofs.Loop.{rides-sized, at-start, at_next, at-stopped, at-end}
use native.Mathlib.Omega.{arith}
use mathlib.Core.Path.{sym, ◌∙◌}
use Rattle.rounds.proofs.ride_rounds.Goals as goal

pub loop-init : goal.loop-init
loop-init c = at-start c.args.workout c.args.profile _ _ _ _ c.requires.0 c.requires.1 c.requires.2 c.requires.3

pub returns-then-is_stopped : goal.returns-then-is_stopped
returns-then-is_stopped c = at-stopped _ _ c.loop.counter c.loop.invariant (sym c.is_stopped.ensures ∙ c.if-is_stopped.true)

pub round-ride-requires : goal.round-ride-requires
round-ride-requires c = (
  rides-sized c.args.workout c.loop.ride c.loop.auto.kinds c.loop.auto.values c.loop.invariant.rides,
  sym c.is_stopped.ensures ∙ c.if-is_stopped.false,
  c.loop.invariant.minute,
  omega (arith, c.loop.invariant.parts),
)

pub loop-preserved : goal.loop-preserved
loop-preserved c = at_next _ _ c.round-ride.result c.loop.counter c.loop.invariant (sym c.is_stopped.ensures ∙ c.if-is_stopped.false) (omega arith) c.round-ride.ensures

pub returns : goal.returns
returns c = at-end _ _ c.loop.counter c.loop.invariant (omega arith)
