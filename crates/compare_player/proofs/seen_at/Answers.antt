-- `compare_player::seen_at` plays the first k calls. The invariant: the player is that after i calls.
use mathlib.Core.Path.{◌∙◌, ap}
use native.Mathlib.Omega.{arith}
use Rattle.compare_player.proofs.Laws.{seen-turn}
use Rattle.compare_player.specs.Calls.{seen_after, turned}
use Rattle.compare_player.specs.declared.Seen.{Seen}
use Rattle.compare_player.proofs.seen_at.Goals as goal

pub loop-i-init : goal.loop-i-init
unfolding seen_after
loop-i-init c = c.begin-seen.ensures

pub loop-i-preserved : goal.loop-i-preserved
loop-i-preserved c = let a = c.args in
    let at = c.loop-i in
    c.take_turn-seen.ensures ∙ ap (λ (s : Seen). turned a.calls.now s at.i) at.invariant ∙ seen-turn a.file.now a.calls.now at.i

pub returns : goal.returns
returns c = let a = c.args in c.loop-i.invariant ∙ ap (seen_after a.file.now a.calls.now) (omega arith)
