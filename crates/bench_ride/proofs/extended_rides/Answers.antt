-- `bench_ride::extended_rides` meets its contract, which is the statement.
use Rattle.bench_ride.proofs.Rides.{rides}
use Rattle.bench_ride.proofs.extended_rides.Goals as goal

pub returns : goal.returns
returns c = rides.1
