-- `compare_fields::set_place` sets one of the average's three places.
use Rattle.compare_fields.specs.Fields.{set_place}
use Rattle.compare_fields.proofs.set_place.Goals as goal

pub returns : goal.returns
unfolding set_place
returns c = simp c.low16.ensures
