-- `compare_player::take_turn` plays call k of the list.
use mathlib.Core.Path.{◌∙◌, ap}
use Rattle.compare_player.specs.Calls.{turned, played, looked_at}
use Rattle.compare_player.specs.declared.Call.{Call}
use Rattle.compare_player.specs.declared.Turn.{Turn}
use Rattle.compare_player.proofs.take_turn.Goals as goal

pub returns : goal.returns
unfolding turned
returns c = let a = c.args in
    c.look.ensures
    ∙ ap (λ (t : Turn). looked_at t c.call_at-call.result) c.play.ensures
    ∙ ap (λ (k : Call). looked_at (played a.seen.player k) k) c.call_at-call.ensures
