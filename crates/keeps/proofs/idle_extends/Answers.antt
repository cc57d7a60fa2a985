-- `keeps::idle_extends` meets its contract, which is the statement.
use Rattle.keeps.proofs.Extends.{idle-extends}
use Rattle.keeps.proofs.idle_extends.Goals as goal

pub returns : goal.returns
returns c = idle-extends
