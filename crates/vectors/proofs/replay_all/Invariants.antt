-- `vectors::replay_all` takes as many steps as the list has bytes. The invariant: as many steps as turns are taken.
use mathlib.Core.Path.{◌≡◌}
use Rattle.vectors.specs.Replays.{steps}
use Rattle.vectors.proofs.replay_all.Given as goal

abbrev pub invariant-loop : goal.invariant-loop
invariant-loop l = l.s ≡ steps l.question l.list l.counter
