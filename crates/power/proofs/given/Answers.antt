-- `given`: an absent reading adds nothing.
use native.Mathlib.Omega.{arith}
use Rattle.power.proofs.given.Goals as goal

pub returns-then-present : goal.returns-then-present
returns-then-present c = (simp c.if-present.true, rw c.if-present.true (omega arith), omega arith)
