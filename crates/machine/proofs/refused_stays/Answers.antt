-- `machine::refused_stays` meets its contract, which is the statement.
use Rattle.machine.proofs.Refused.{refused-stays}
use Rattle.machine.proofs.refused_stays.Goals as goal

pub returns : goal.returns
returns c = refused-stays
