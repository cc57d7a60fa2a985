-- `machine::sample_rides` meets its contract, which is the statement.
use Rattle.machine.proofs.Samples.{samples-are}
use Rattle.machine.proofs.sample_rides.Goals as goal

pub returns : goal.returns
returns c = samples-are
