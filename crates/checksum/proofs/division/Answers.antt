-- The statement is the two laws.
use Rattle.checksum.proofs.Quotient.{sum, degree}
use Rattle.checksum.proofs.division.Goals as goal

pub returns : goal.returns
returns c = record { sum = sum; degree = degree }
