-- `push`: one element stored in each array is a run of one event.
use Rattle.events.proofs.Laws.{wrote_one}
use borrow.Author.Rules.{rules}
use Rattle.events.proofs.push.Goals as goal

pub returns : goal.returns
returns c = wrote_one _ _ _ _ _ (search rules) (search rules)
