-- `compare_player::ride` plays one ride: the call's answer and its arrays, in words.
use mathlib.Core.Path.{◌∙◌, ap}
use Rattle.compare_player.proofs.Laws.{answers-turn}
use Rattle.compare_player.specs.Calls.{turn_of}
use Rattle.compare_player.proofs.ride.Goals as goal

pub returns : goal.returns
returns c = c.turn_of.ensures ∙ ap (turn_of c.ride-update.result) c.check_of.ensures ∙ answers-turn c.ride-update.ensures
