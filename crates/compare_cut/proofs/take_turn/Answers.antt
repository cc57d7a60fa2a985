-- `compare_cut::take_turn` plays call k of the list.
use mathlib.Core.Path.{◌∙◌, ap}
use Rattle.compare_player.specs.Calls.{looked_at}
use Rattle.compare_player.specs.declared.Call.{Call}
use Rattle.compare_player.specs.declared.Turn.{Turn}
use Rattle.compare_cut.specs.Cuts.{turned_cut, played_cut}
use Rattle.compare_cut.proofs.take_turn.Goals as goal

pub returns : goal.returns
unfolding turned_cut
returns c = let a = c.args in
    c.look.ensures
    ∙ ap (λ (t : Turn). looked_at t c.call_at-call.result) c.play.ensures
    ∙ ap (λ (k : Call). looked_at (played_cut a.seen.player k a.seen.given.check) k) c.call_at-call.ensures
