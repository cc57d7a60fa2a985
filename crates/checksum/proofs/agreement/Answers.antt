-- The statement is the three laws.
use Rattle.checksum.proofs.V42.{reflected, shift-check, table-check}
use Rattle.checksum.proofs.agreement.Goals as goal

pub returns : goal.returns
returns c = record { reflected = reflected; shift-register = λ s h. shift-check s; table = table-check }
