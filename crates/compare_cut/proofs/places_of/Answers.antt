-- `compare_cut::places_of` gives the least of a word and 200.
use Rattle.compare_cut.proofs.places_of.Goals as goal

pub returns : goal.returns
returns c = c.least.ensures
