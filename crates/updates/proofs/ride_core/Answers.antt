-- `ride_core`: the loop starts from a core that stands but for what is to be ridden.
use mathlib.Core.Path.{refl}
use Rattle.updates.proofs.Laws.{start-rides}
use Rattle.updates.proofs.ride_core.Goals as goal

pub ride_rounds-requires : goal.ride_rounds-requires
ride_rounds-requires c = let a = c.args in
    (rw c.add_totals.ensures (start-rides a.workout a.core a.ms.0 a.mm.0 _ _ c.requires.0), c.requires.1, refl, refl)

pub returns : goal.returns
returns c = rw c.add_totals.ensures at c.ride_rounds.ensures
