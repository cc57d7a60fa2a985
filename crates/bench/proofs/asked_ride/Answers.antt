-- `asked_ride`: the call's player.
use Rattle.bench.specs.Rides.{ridden_of}
use Rattle.bench.proofs.asked_ride.Goals as goal

pub returns : goal.returns
unfolding ridden_of
returns c = c.ride-update.ensures.player
