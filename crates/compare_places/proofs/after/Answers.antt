-- `compare_places::after` plays the first calls. The invariant: the player is that after i calls.
use mathlib.Core.Path.{◌∙◌, ap}
use native.Mathlib.Omega.{arith}
use Rattle.compare_player.specs.Calls.{call_at}
use Rattle.compare_player.specs.declared.Call.{Call}
use Rattle.compare_player.specs.declared.Seen.{Seen}
use Rattle.state.specs.declared.Player.{Player}
use Rattle.compare_places.proofs.Laws.{player-next}
use Rattle.compare_places.specs.Places.{played_lent, player_after}
use Rattle.compare_places.proofs.after.Goals as goal

pub loop-i-init : goal.loop-i-init
unfolding player_after
loop-i-init c = ap (λ (s : Seen). s.player) c.begin-seen.ensures

pub loop-i-preserved : goal.loop-i-preserved
loop-i-preserved c = let a = c.args in
    let at = c.loop-i in
    c.play-player.ensures
    ∙ ap (λ (k : Call). played_lent at.player k a.exact) c.call_at.ensures
    ∙ ap (λ (p : Player). played_lent p (call_at a.calls.now at.i) a.exact) at.invariant
    ∙ player-next a.file.now a.calls.now a.exact at.i

pub returns : goal.returns
returns c = let a = c.args in c.loop-i.invariant ∙ ap (player_after a.file.now a.calls.now a.exact) (omega arith)
