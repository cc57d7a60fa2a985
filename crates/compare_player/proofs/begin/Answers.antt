-- `compare_player::begin` makes the fresh player of a file.
use mathlib.Core.Path.{◌∙◌, ap}
use Rattle.decode.specs.declared.Decoded.{Decoded}
use Rattle.start.specs.Start.{new_of}
use Rattle.start.specs.declared.NewPlayer.{NewPlayer}
use Rattle.compare_player.specs.Calls.{begun, looked_at, new_turn, call_at}
use Rattle.compare_player.specs.declared.Call.{Call}
use Rattle.compare_player.proofs.begin.Goals as goal

pub returns : goal.returns
unfolding begun
returns c = let a = c.args in
    let made = c.new-made.ensures ∙ ap (λ (d : Decoded). new_of d.workout) c.decode-read.ensures in
    c.look.ensures
    ∙ simp c.refused_number.ensures (ap (λ (k : Call). looked_at (new_turn c.new-made.result) k) c.call_at.ensures)
    ∙ ap (λ (m : NewPlayer). looked_at (new_turn m) (call_at a.calls.now 0)) made
