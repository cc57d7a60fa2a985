-- `bench_ride::bench_ride` meets its contract, which is the statement.
use Rattle.bench_ride.proofs.Rides.{rides}
use Rattle.bench_ride.proofs.bench_ride.Goals as goal

pub returns : goal.returns
returns c = rides.0
