-- `readings_ok`: the two tests are the definition's.
use Rattle.standing.proofs.readings_ok.Goals as goal

pub returns : goal.returns
returns c = simp c.cadence_in.ensures
