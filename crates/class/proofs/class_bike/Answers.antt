-- `class_bike`: a fresh player and a profile.
use mathlib.Core.Path.{ap, ◌∙◌}
use Rattle.start.specs.declared.NewPlayer.{NewPlayer}
use Rattle.start.specs.Start.{new_of}
use Rattle.class.proofs.class_bike.Goals as goal

pub returns : goal.returns
returns c =
    let a = c.args in
    ap (λ (m : NewPlayer). record { player = m.player; profile = record { ftp_watts = a.ftp; lthr_bpm = 160 } })
    (c.new-made.ensures ∙ ap new_of c.class_workout.ensures)
