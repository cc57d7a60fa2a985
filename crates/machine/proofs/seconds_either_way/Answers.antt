-- `machine::seconds_either_way` meets its contract, which is the statement.
use Rattle.machine.proofs.Reversed.{seconds-either-way}
use Rattle.machine.proofs.seconds_either_way.Goals as goal

pub returns : goal.returns
returns c = seconds-either-way
