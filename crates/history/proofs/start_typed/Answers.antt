-- `history::start_typed`: it has its type's range.
use native.Mathlib.Omega.{arith}
use Rattle.history.proofs.start_typed.Goals as goal

pub returns-in-None : goal.returns-in-None
returns-in-None c = rw c.in-None.is (omega arith)

pub returns-in-Some : goal.returns-in-Some
returns-in-Some c = rw c.in-Some.is (omega arith)
