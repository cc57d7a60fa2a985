-- `cadence_in`: an absent cadence is within its limit.
use Rattle.standing.proofs.cadence_in.Goals as goal

pub returns-in-Some : goal.returns-in-Some
returns-in-Some c = simp c.in-Some.is
