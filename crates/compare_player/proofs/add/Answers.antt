-- `compare_player::add` plays one `add`: the call's answer and its arrays, in words.
use mathlib.Core.Path.{◌∙◌, ap}
use Rattle.player.specs.Calls.{add_of}
use Rattle.readings.specs.declared.Sample.{Sample}
use Rattle.compare_player.proofs.Laws.{answers-turn}
use Rattle.compare_player.specs.Calls.{turn_of, called_turn}
use Rattle.compare_player.proofs.add.Goals as goal

pub returns : goal.returns
returns c = let a = c.args in
    c.turn_of.ensures
    ∙ ap (turn_of c.add-update.result) c.check_of.ensures
    ∙ answers-turn c.add-update.ensures
    ∙ ap (λ (s : Sample). called_turn (add_of a.player a.call.ms a.call.mm s a.call.profile 193 193)) c.sample_of-sample.ensures
