-- `places_ok`: both arrays are asked.
use Rattle.player.proofs.places_ok.Goals as goal

pub returns : goal.returns
returns c = simp c.event_places-places.ensures
