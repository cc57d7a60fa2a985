-- `asked_bikes`: four bikes, written out.
use mathlib.Core.Path.{refl}
use Rattle.bench.specs.Grants.{asked_bikes}
use Rattle.bench.proofs.asked_bikes.Goals as goal

pub returns : goal.returns
unfolding asked_bikes
returns c = refl
