-- `step_at`: a place below the number of steps in use has a step, another has none.
use native.Mathlib.Omega.{arith}
use Rattle.order.proofs.Planned.{step-found, step-none}
use Rattle.order.proofs.step_at.Goals as goal

pub returns-then-index-min : goal.returns-then-index-min
returns-then-index-min c = let a = c.args in step-found a.steps a.count a.place _ (omega arith) (omega arith)

pub returns : goal.returns
returns c = let a = c.args in step-none a.steps a.count a.place (omega arith)
