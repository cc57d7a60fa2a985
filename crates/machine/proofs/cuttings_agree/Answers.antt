-- `machine::cuttings_agree` meets its contract, which is the statement.
use Rattle.machine.proofs.Agree.{cuttings-agree}
use Rattle.machine.proofs.cuttings_agree.Goals as goal

pub returns : goal.returns
returns c = cuttings-agree
