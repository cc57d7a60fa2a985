-- `keeps::keeps_standing` meets its contract, which is the statement.
use Rattle.keeps.proofs.Fresh.{keeps-standing}
use Rattle.keeps.proofs.keeps_standing.Goals as goal

pub returns : goal.returns
returns c = keeps-standing
