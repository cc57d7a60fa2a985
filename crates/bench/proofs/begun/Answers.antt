-- `begun`: what is read, made and read in turn.
use mathlib.Core.Path.{◌∙◌, ap}
use Rattle.decode.specs.declared.Decoded.{Decoded}
use Rattle.start.specs.declared.NewPlayer.{NewPlayer}
use Rattle.start.specs.Start.{new_of}
use Rattle.outcomes.specs.declared.Update.{Update}
use Rattle.player.specs.Calls.{read_of}
use Rattle.bench.specs.Rides.{sample, begun_of}
use Rattle.bench.proofs.begun.Goals as goal

pub returns : goal.returns
unfolding begun_of
returns c =
    ap (λ (u : Update). u.player)
    (c.read-update.ensures ∙ ap (λ (m : NewPlayer). read_of m.player sample) (c.new-made.ensures ∙ ap (λ (d : Decoded). new_of d.workout) c.decode-decoded.ensures))
