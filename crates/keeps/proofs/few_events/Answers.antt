-- `keeps::few_events` meets its contract, which is the statement.
use Rattle.keeps.proofs.Few.{few-events}
use Rattle.keeps.proofs.few_events.Goals as goal

pub returns : goal.returns
returns c = few-events
