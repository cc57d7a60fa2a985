-- `encode::put_steps` meets its contract: the steps so far stand behind the place, and the next has room.
use Rattle.steps.specs.Bytes.{step_bytes}
use Rattle.encode.proofs.Many.{Wrote}
use Rattle.encode.proofs.put_steps.Given as goal

abbrev pub invariant-loop-step : goal.invariant-loop-step
invariant-loop-step l = Wrote step_bytes l.step-items l.initial.out l.at l.step-index l.place l.out
