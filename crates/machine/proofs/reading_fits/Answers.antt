-- `reading_fits`: a reading has its type's range, an absent one is 0.
use native.Mathlib.Omega.{arith}
use Rattle.machine.proofs.reading_fits.Goals as goal

pub returns-in-None : goal.returns-in-None
returns-in-None c = rw c.in-None.is (omega arith)

pub returns-in-Some : goal.returns-in-Some
returns-in-Some c = rw c.in-Some.is (omega arith)
