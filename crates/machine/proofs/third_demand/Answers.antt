-- `machine::third_demand` meets its contract, which is the statement.
use Rattle.machine.proofs.Demand.{third-demand}
use Rattle.machine.proofs.third_demand.Goals as goal

pub returns : goal.returns
returns c = third-demand
