-- `new`: questions 5 to 9; refused, a player of the empty workout.
use Rattle.validation.proofs.Passes.{passes}
use Rattle.start.proofs.Laws.{empty-plays}
use Rattle.start.specs.Start.{new_of}
use native.Mathlib.Omega.{arith}
use mathlib.Core.Path.{sym, ◌∙◌}
use Rattle.start.proofs.new.Goals as goal

pub fresh_player-requires : goal.fresh_player-requires
fresh_player-requires c = (passes c.args.workout (sym c.check-answer.ensures ∙ c.in-Ok.is)).most

pub fresh_player-requires-in-Err : goal.fresh_player-requires-in-Err
fresh_player-requires-in-Err c = rw c.empty_workout.ensures (omega (arith, empty-plays))

pub returns-in-Ok : goal.returns-in-Ok
unfolding new_of
returns-in-Ok c = simp (sym c.check-answer.ensures ∙ c.in-Ok.is, c.fresh_player.ensures)

pub returns-in-Err : goal.returns-in-Err
unfolding new_of
returns-in-Err c = simp (sym c.check-answer.ensures ∙ c.in-Err.is, c.fresh_player-in-Err.ensures, c.empty_workout.ensures)
