-- `decode::decode`: the workout, or the refusal with the empty workout.
use mathlib.Core.Path.{sym, ap, ◌∙◌}
use Rattle.decode.specs.Decode.{decoded, decode_of}
use Rattle.decode.proofs.decode.Goals as goal

pub returns-in-Ok : goal.returns-in-Ok
unfolding decode_of
returns-in-Ok c = ap decoded (sym c.in-Ok.is ∙ c.read_file.ensures)

pub returns-in-Err : goal.returns-in-Err
unfolding decode_of
returns-in-Err c = rw c.empty_workout.ensures (ap decoded (sym c.in-Err.is ∙ c.read_file.ensures))
